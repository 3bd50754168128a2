-- What is read twice from the same files is alike, and opens as the same tables.
use Rattle.std.proofs.Common.{◌≡◌, ℕ, zero, suc, ◌+◌, Bool, cond, List, [], ◌∷◌, ◌++◌, length, Option, Some, None, Result, Ok, refl, sym, ap, subst, ◌∙◌}
use Rattle.std.specs.Prelude.{not, nat_lt, bytes_eq, slice_get, slice_set}
use Rattle.std.specs.List.{prefix_len}
use Rattle.dbf_fields.specs.declared.field.Field.{Field}
use Rattle.dbf_image.specs.DbfText.{IsDbf}
use Rattle.dbf_image.specs.Table.{Table}
use Rattle.dbf_image.proofs.DbfLaws.{dbf_is}
use Rattle.key_expr.specs.declared.fault.ExprFault.{ExprFault}
use Rattle.key_expr.specs.Expression.{Expression}
use Rattle.key_expr.proofs.Parsing.{one_expr}
use Rattle.ndx_index.specs.Header.{IsIndex}
use Rattle.table_core.specs.Content.{Content, with_index}
use Rattle.catalogue_core.specs.declared.opening.OpenFault.{OpenFault}
use Rattle.catalogue_core.specs.declared.opening.OpenFault.TheVariants.{BadExpression, DuplicateIndex, IndexStale}
use Rattle.catalogue_core.specs.declared.source.IndexSource.{IndexSource}
use Rattle.catalogue_core.specs.declared.source.TableSource.{TableSource}
use Rattle.catalogue_core.specs.Opening.{Then, Made, Reading, IsFresh, IfFresh, IndexOpening, IndexesOpening, TableOpening, TablesOpening, next_table, next_index, is_index, table_tests, count_tests, named_index, without_indexes}
use Rattle.catalogue_core.specs.Replay.{Opened}
use Rattle.catalogue_core.specs.Tables.{NamedTable}
use Rattle.folders.specs.declared.named.NamedFile.{NamedFile}
use Rattle.folders.specs.Files.{IsFileOf}
use Rattle.station_lines.specs.declared.setup.entry.SetupEntry.{SetupEntry}
use Rattle.station_lines.specs.declared.setup.entry.SetupEntry.TheVariants.{Table as OfTable, Index as OfIndex, Station}
use Rattle.station_lines.specs.Setup.{IsSetup}
use Rattle.station_lines.proofs.SetupLaws.TextLaws.{one_setup}
use Rattle.setup_files.specs.EntryFiles.{IsMemoFileOf, IsTableOfFiles}
use Rattle.office_run.specs.Loading.{Read, read_as, nothing, first_named, HasOneMore, IsIndexRead, IsTableRead, Loads, LoadAll}
use Rattle.office_run.specs.OpenedSetup.{HaveStill, OpensAsBefore, OpensAsOne}
use Rattle.office_run.specs.WholeRun.{IsAllRead, IsSaid}
use Rattle.office_run.proofs.Headings.{fresh_ok, made_ok, passing_ok, then_ok}
use Rattle.office_run.proofs.OpenLaws.{same_expression}
use Rattle.office_run.proofs.WrittenFiles.{same_index}

-- ---- alike

-- of two lists the elements are alike, one by one
abbrev pub Pairwise : {X : Type 0} → (X → X → Type 0) → List X → List X → Type 0
Pairwise R [] [] = Unit {0}
Pairwise R (x ∷ xs) (y ∷ ys) = R x y × Pairwise R xs ys
Pairwise R xs ys = ⊥

-- of the same name, and of a file that was read as the same index
pub record IsLikeIndex (a b : IndexSource) : Type 0 where
  pub named : a.name ≡ b.name
  pub text : a.file.expr ≡ b.file.expr
  pub long : a.file.key_len ≡ b.file.key_len
  pub pairs : a.file.pairs.pairs ≡ b.file.pairs.pairs

pub record IsLikeTable (a b : TableSource) : Type 0 where
  pub named : a.name ≡ b.name
  pub content : a.content ≡ b.content
  pub indexes : Pairwise IsLikeIndex a.indexes.items b.indexes.items

pub record IsLikeRead (a b : Read) : Type 0 where
  pub tables : Pairwise IsLikeTable a.tables b.tables
  pub scripts : a.scripts ≡ b.scripts

more_alike : {X : Type 0} (R : X → X → Type 0) (xs ys : List X) (x y : X) → Pairwise R xs ys → R x y → Pairwise R (xs ++ x ∷ []) (ys ++ y ∷ [])
more_alike R [] [] x y h k = (k, tt)
more_alike R [] (b ∷ ys) x y h k = absurd h
more_alike R (a ∷ xs) [] x y h k = absurd h
more_alike R (a ∷ xs) (b ∷ ys) x y h k = (h.0, more_alike R xs ys x y h.1 k)

get_alike : {X : Type 0} (R : X → X → Type 0) (xs ys : List X) (i : ℕ) (x y : X) → Pairwise R xs ys → slice_get xs i ≡ Some x → slice_get ys i ≡ Some y → R x y
get_alike R [] [] i x y h e f = absurd cc
get_alike R [] (b ∷ ys) i x y h e f = absurd h
get_alike R (a ∷ xs) [] i x y h e f = absurd h
get_alike {X} R (a ∷ xs) (b ∷ ys) zero x y h e f =
    let first : a ≡ x = cc in
    let other : b ≡ y = cc in
    subst (λ (z : X). R z y) first (subst (λ (z : X). R a z) other h.0)
get_alike R (a ∷ xs) (b ∷ ys) (suc i) x y h e f = get_alike R xs ys i x y h.1 e f

set_alike : {X : Type 0} (R : X → X → Type 0) (xs ys : List X) (i : ℕ) (x y : X) → Pairwise R xs ys → R x y → Pairwise R (slice_set xs i x) (slice_set ys i y)
set_alike R [] [] i x y h k = tt
set_alike R [] (b ∷ ys) i x y h k = absurd h
set_alike R (a ∷ xs) [] i x y h k = absurd h
set_alike R (a ∷ xs) (b ∷ ys) zero x y h k = (k, h.1)
set_alike R (a ∷ xs) (b ∷ ys) (suc i) x y h k = (h.0, set_alike R xs ys i x y h.1 k)

pub as_many : {X : Type 0} (R : X → X → Type 0) (xs ys : List X) → Pairwise R xs ys → length xs ≡ length ys
as_many R [] [] h = refl
as_many R [] (b ∷ ys) h = absurd h
as_many R (a ∷ xs) [] h = absurd h
as_many R (a ∷ xs) (b ∷ ys) h = ap suc (as_many R xs ys h.1)

-- no table before the first of the name has it
abbrev is_other : List ℕ → TableSource → Bool
is_other name t = not (bytes_eq name t.name)

others_alike : (name : List ℕ) (xs ys : List TableSource) → Pairwise IsLikeTable xs ys → prefix_len (is_other name) xs ≡ prefix_len (is_other name) ys
others_alike name [] [] h = refl
others_alike name [] (b ∷ ys) h = absurd h
others_alike name (a ∷ xs) [] h = absurd h
others_alike name (a ∷ xs) (b ∷ ys) h =
    ap (λ (n : List ℕ). cond (not (bytes_eq name n)) (1 + prefix_len (is_other name) xs) 0) h.0.named
    ∙ ap (λ (k : ℕ). cond (is_other name b) (1 + k) 0) (others_alike name xs ys h.1)

first_alike : (name : List ℕ) (xs ys : List TableSource) → Pairwise IsLikeTable xs ys → first_named name xs ≡ first_named name ys
first_alike name xs ys h =
    ap (λ (k : ℕ). cond (nat_lt k (length xs)) (Some k) None) (others_alike name xs ys h)
    ∙ ap (λ (n : ℕ). cond (nat_lt (prefix_len (is_other name) ys) n) (Some (prefix_len (is_other name) ys)) None) (as_many IsLikeTable xs ys h)

-- ---- files

pub one_file : (files : List NamedFile) (path a b : List ℕ) → IsFileOf (Some files) path a → IsFileOf (Some files) path b → a ≡ b
one_file files path a b h k = let same : Some a ≡ Some b = sym h.has ∙ k.has in cc

pub one_memo : (files : List NamedFile) (path a b : Option (List ℕ)) → IsMemoFileOf (Some files) path a → IsMemoFileOf (Some files) path b → a ≡ b
one_memo files None a b h k = h ∙ sym k
one_memo files (Some path) a b h k = h.2 ∙ ap (λ (l : List ℕ). Some l) (one_file files path h.0 k.0 h.1 k.1) ∙ sym k.2

one_table : (bytes : List ℕ) (memo : Option (List ℕ)) (a b : Table) → IsDbf bytes memo a → IsDbf bytes memo b → a ≡ b
one_table bytes memo a b h k = sym (dbf_is bytes memo a h).1 ∙ (dbf_is bytes memo b k).1

one_content : (files : List NamedFile) (dbf : List ℕ) (dbt : Option (List ℕ)) (a b : Table) → IsTableOfFiles (Some files) dbf dbt a → IsTableOfFiles (Some files) dbf dbt b → a ≡ b
one_content files dbf dbt a b h k =
    let bytes : h.bytes ≡ k.bytes = one_file files dbf h.bytes k.bytes h.found k.found in
    let memo : h.memo ≡ k.memo = one_memo files dbt h.memo k.memo h.memo_found k.memo_found in
    one_table k.bytes k.memo a b (subst (λ (m : Option (List ℕ)). IsDbf k.bytes m a) memo (subst (λ (l : List ℕ). IsDbf l h.memo a) bytes h.is)) k.is

like_table : (files : List NamedFile) (name dbf : List ℕ) (dbt : Option (List ℕ)) (a b : TableSource) → IsTableRead (Some files) name dbf dbt a → IsTableRead (Some files) name dbf dbt b → IsLikeTable a b
like_table files name dbf dbt a b h k =
    let none : List IndexSource = [] in
    let plain : Pairwise IsLikeIndex none b.indexes.items = subst (λ (l : List IndexSource). Pairwise IsLikeIndex none l) (sym k.plain) tt in
    record {
      named = h.named ∙ sym k.named;
      content = one_content files dbf dbt a.content b.content h.content k.content;
      indexes = subst (λ (l : List IndexSource). Pairwise IsLikeIndex l b.indexes.items) (sym h.plain) plain;
    }

like_index : (files : List NamedFile) (name ndx : List ℕ) (a b : IndexSource) → IsIndexRead (Some files) name ndx a → IsIndexRead (Some files) name ndx b → IsLikeIndex a b
like_index files name ndx a b h k =
    let x = h.content in
    let y = k.content in
    let bytes : x.bytes ≡ y.bytes = one_file files ndx x.bytes y.bytes x.found y.found in
    let index : IsIndex y.bytes a.file.expr a.file.key_len a.file.pairs.pairs = subst (λ (l : List ℕ). IsIndex l a.file.expr a.file.key_len a.file.pairs.pairs) bytes x.is in
    let same = same_index y.bytes a.file.expr b.file.expr a.file.key_len b.file.key_len a.file.pairs.pairs b.file.pairs.pairs index y.is in
    record { named = h.named ∙ sym k.named; text = same.0; long = same.1; pairs = same.2 }

one_more_alike : (i j : IndexSource) (t u s r : TableSource) → IsLikeIndex i j → IsLikeTable t u → HasOneMore i t s → HasOneMore j u r → IsLikeTable s r
one_more_alike i j t u s r index like h k =
    let more : Pairwise IsLikeIndex (t.indexes.items ++ i ∷ []) (u.indexes.items ++ j ∷ []) = more_alike IsLikeIndex t.indexes.items u.indexes.items i j like.indexes index in
    record {
      named = h.named ∙ like.named ∙ sym k.named;
      content = h.content ∙ like.content ∙ sym k.content;
      indexes = subst (λ (l : List IndexSource). Pairwise IsLikeIndex l r.indexes.items) (sym h.indexes) (subst (λ (l : List IndexSource). Pairwise IsLikeIndex (t.indexes.items ++ i ∷ []) l) (sym k.indexes) more);
    }

like_along : (a b c d : Read) → c ≡ a → d ≡ b → IsLikeRead a b → IsLikeRead c d
like_along a b c d e f like = subst (λ (r : Read). IsLikeRead r d) (sym e) (subst (λ (r : Read). IsLikeRead a r) (sym f) like)

loads_alike : (files : List NamedFile) (entry : SetupEntry) (a b c d : Read) → IsLikeRead a b → Loads (Some files) entry a c → Loads (Some files) entry b d → IsLikeRead c d
loads_alike files (OfTable name dbf dbt) a b c d like h k =
    like_along (read_as (a.tables ++ h.0 ∷ []) a.scripts) (read_as (b.tables ++ k.0 ∷ []) b.scripts) c d h.2 k.2
    (record { tables = more_alike IsLikeTable a.tables b.tables h.0 k.0 like.tables (like_table files name dbf dbt h.0 k.0 h.1 k.1); scripts = like.scripts })
loads_alike files (OfIndex table name ndx) a b c d like h k =
    let x = h.2 in
    let y = k.2 in
    let found : Some x.place ≡ Some y.place = sym x.first ∙ first_alike table a.tables b.tables like.tables ∙ y.first in
    let place : x.place ≡ y.place = cc in
    let there : slice_get b.tables x.place ≡ Some y.table = subst (λ (i : ℕ). slice_get b.tables i ≡ Some y.table) (sym place) y.there in
    let old : IsLikeTable x.table y.table = get_alike IsLikeTable a.tables b.tables x.place x.table y.table like.tables x.there there in
    let changed : IsLikeTable x.changed y.changed = one_more_alike h.0 k.0 x.table y.table x.changed y.changed (like_index files name ndx h.0 k.0 h.1 k.1) old x.one_more y.one_more in
    let others : d.tables ≡ slice_set b.tables x.place y.changed = y.others ∙ ap (λ (i : ℕ). slice_set b.tables i y.changed) (sym place) in
    let all : Pairwise IsLikeTable (slice_set a.tables x.place x.changed) (slice_set b.tables x.place y.changed) = set_alike IsLikeTable a.tables b.tables x.place x.changed y.changed like.tables changed in
    record {
      tables = subst (λ (l : List TableSource). Pairwise IsLikeTable l d.tables) (sym x.others) (subst (λ (l : List TableSource). Pairwise IsLikeTable (slice_set a.tables x.place x.changed) l) (sym others) all);
      scripts = h.3 ∙ like.scripts ∙ sym k.3;
    }
loads_alike files (Station script) a b c d like h k =
    like_along (read_as a.tables (a.scripts ++ h.0 ∷ [])) (read_as b.tables (b.scripts ++ k.0 ∷ [])) c d h.2 k.2
    (record {
      tables = like.tables;
      scripts = ap (λ (l : List (List ℕ)). l ++ h.0 ∷ []) like.scripts ∙ ap (λ (bytes : List ℕ). b.scripts ++ bytes ∷ []) (one_file files script h.0 k.0 h.1 k.1);
    })

all_loads_alike : (files : List NamedFile) (entries : List SetupEntry) (a b c d : Read) → IsLikeRead a b → LoadAll (Some files) entries a c → LoadAll (Some files) entries b d → IsLikeRead c d
all_loads_alike files [] a b c d like h k = like_along a b c d h k like
all_loads_alike files (entry ∷ entries) a b c d like h k = all_loads_alike files entries h.0 k.0 c d (loads_alike files entry a b h.0 k.0 like h.1 k.1) h.2 k.2

abbrev said_ok : List SetupEntry → Result (List SetupEntry) ℕ
said_ok entries = Ok entries

-- a setup says one thing
pub one_said : (files : List NamedFile) (setup : List ℕ) (xs ys : List SetupEntry) → IsSaid (Some files) setup (Ok xs) → IsSaid (Some files) setup (Ok ys) → xs ≡ ys
one_said files setup xs ys h k =
    let text : h.text ≡ k.text = one_file files setup h.text k.text h.found k.found in
    let said : said_ok xs ≡ said_ok ys = one_setup k.text (said_ok xs) (said_ok ys) (subst (λ (l : List ℕ). IsSetup l (said_ok xs)) text h.says) k.says in
    cc

pub reads_alike : (files : List NamedFile) (setup : List ℕ) (a b : Read) → IsAllRead (Some files) setup a → IsAllRead (Some files) setup b → IsLikeRead a b
reads_alike files setup a b h k =
    let entries : h.entries ≡ k.entries = one_said files setup h.entries k.entries h.said k.said in
    all_loads_alike files k.entries nothing nothing a b (record { tables = tt; scripts = refl }) (subst (λ (l : List SetupEntry). LoadAll (Some files) l nothing a) entries h.loaded) k.loaded

-- ---- opening

pub one_reading : (fields : List Field) (text : List ℕ) (bad : ExprFault → OpenFault) (a b : Expression) → Reading fields text bad (Ok a) → Reading fields text bad (Ok b) → a ≡ b
one_reading fields text bad a b h k = same_expression a b (h.0 ∙ sym k.0) (h.1 ∙ sym k.1) (one_expr fields text a.expr b.expr h.2 k.2)

-- what an index that was opened is
abbrev IsIndexAdded : List NamedTable → Content → IndexSource → Content → Type 0
IsIndexAdded earlier content source next =
    (e : Expression) × Reading content.table.schema source.file.expr (BadExpression (next_table earlier) (next_index content)) (Ok e) × (next ≡ with_index content (named_index source.name e))

index_added : (reindex : Bool) (earlier : List NamedTable) (content : Content) (source : IndexSource) (next : Content) → IndexOpening reindex earlier content source (Ok next) → IsIndexAdded earlier content source next
index_added reindex earlier content source next h =
    let n : ℕ = next_table earlier in
    let m : ℕ = next_index content in
    let made : Expression → Result Content OpenFault → Type 0 = λ x. Made (with_index content (named_index source.name x)) in
    let fresh : Expression → Result Content OpenFault → Type 0 = λ x. IfFresh reindex (IsFresh content.table x source.file) (IndexStale n m) (made x) in
    let first : Result Expression OpenFault → Type 0 = Reading content.table.schema source.file.expr (BadExpression n m) in
    let tested = passing_ok ((not (is_index earlier content source.name), DuplicateIndex n m) ∷ []) (Then first fresh) next h in
    let read = then_ok first fresh next tested.1 in
    let e : Expression = read.0 in
    (e, read.1, made_ok (with_index content (named_index source.name e)) next (fresh_ok reindex (IsFresh content.table e source.file) (IndexStale n m) (made e) next read.2))

pub one_index : (reindex : Bool) (earlier : List NamedTable) (content : Content) (s t : IndexSource) (a b : Content) → IsLikeIndex s t → IndexOpening reindex earlier content s (Ok a) → IndexOpening reindex earlier content t (Ok b)
    → a ≡ b
one_index reindex earlier content s t a b like h k =
    let x = index_added reindex earlier content s a h in
    let y = index_added reindex earlier content t b k in
    let bad : ExprFault → OpenFault = BadExpression (next_table earlier) (next_index content) in
    let read : Reading content.table.schema t.file.expr bad (Ok x.0) = subst (λ (l : List ℕ). Reading content.table.schema l bad (Ok x.0)) like.text x.1 in
    let same : x.0 ≡ y.0 = one_reading content.table.schema t.file.expr bad x.0 y.0 read y.1 in
    x.2
    ∙ ap (λ (name : List ℕ). with_index content (named_index name x.0)) like.named
    ∙ ap (λ (e : Expression). with_index content (named_index t.name e)) same
    ∙ sym y.2

one_indexes : (reindex : Bool) (earlier : List NamedTable) (content : Content) (ss ts : List IndexSource) (a b : Content) → Pairwise IsLikeIndex ss ts → IndexesOpening reindex earlier content ss (Ok a)
    → IndexesOpening reindex earlier content ts (Ok b) → a ≡ b
one_indexes reindex earlier content [] [] a b like h k = let first : a ≡ content = cc in let other : b ≡ content = cc in first ∙ sym other
one_indexes reindex earlier content [] (t ∷ ts) a b like h k = absurd like
one_indexes reindex earlier content (s ∷ ss) [] a b like h k = absurd like
one_indexes reindex earlier content (s ∷ ss) (t ∷ ts) a b like h k =
    let x = then_ok (IndexOpening reindex earlier content s) (λ (next : Content). IndexesOpening reindex earlier next ss) a h in
    let y = then_ok (IndexOpening reindex earlier content t) (λ (next : Content). IndexesOpening reindex earlier next ts) b k in
    let same : x.0 ≡ y.0 = one_index reindex earlier content s t x.0 y.0 like.0 x.1 y.1 in
    one_indexes reindex earlier y.0 ss ts a b like.1 (subst (λ (c : Content). IndexesOpening reindex earlier c ss (Ok a)) same x.2) y.2

-- what a table that was opened is
abbrev IsTableAdded : Bool → List NamedTable → TableSource → NamedTable → Type 0
IsTableAdded reindex earlier source t =
    (content : Content) × IndexesOpening reindex earlier (without_indexes source.content) source.indexes.items (Ok content) × (t ≡ record { name = source.name; content = content })

table_added : (reindex : Bool) (earlier : List NamedTable) (source : TableSource) (t : NamedTable) → TableOpening reindex earlier source (Ok t) → IsTableAdded reindex earlier source t
table_added reindex earlier source t h =
    let first : Result Content OpenFault → Type 0 = IndexesOpening reindex earlier (without_indexes source.content) source.indexes.items in
    let named : Content → NamedTable = λ next. record { name = source.name; content = next } in
    let rest : Content → Result NamedTable OpenFault → Type 0 = λ next. Made (named next) in
    let tested = passing_ok (table_tests earlier source) (Then first rest) t h in
    let k = then_ok first rest t tested.1 in
    (k.0, k.1, made_ok (named k.0) t k.2)

same_table : (a b : NamedTable) → a.name ≡ b.name → a.content ≡ b.content → a ≡ b
same_table a b n c i = record { name = n i; content = c i }

pub one_table_opened : (reindex : Bool) (earlier : List NamedTable) (s t : TableSource) (a b : NamedTable) → IsLikeTable s t → TableOpening reindex earlier s (Ok a) → TableOpening reindex earlier t (Ok b) → a ≡ b
one_table_opened reindex earlier s t a b like h k =
    let x = table_added reindex earlier s a h in
    let y = table_added reindex earlier t b k in
    let plain : IndexesOpening reindex earlier (without_indexes t.content) s.indexes.items (Ok x.0) =
    subst (λ (c : Table). IndexesOpening reindex earlier (without_indexes c) s.indexes.items (Ok x.0)) like.content x.1 in
    let content : x.0 ≡ y.0 = one_indexes reindex earlier (without_indexes t.content) s.indexes.items t.indexes.items x.0 y.0 like.indexes plain y.1 in
    same_table a b
    (ap (λ (u : NamedTable). u.name) x.2 ∙ like.named ∙ sym (ap (λ (u : NamedTable). u.name) y.2))
    (ap (λ (u : NamedTable). u.content) x.2 ∙ content ∙ sym (ap (λ (u : NamedTable). u.content) y.2))

one_tables : (reindex : Bool) (earlier : List NamedTable) (ss ts : List TableSource) (a b : List NamedTable) → Pairwise IsLikeTable ss ts → TablesOpening reindex earlier ss (Ok a) → TablesOpening reindex earlier ts (Ok b) → a ≡ b
one_tables reindex earlier [] [] a b like h k = made_ok earlier a h ∙ sym (made_ok earlier b k)
one_tables reindex earlier [] (t ∷ ts) a b like h k = absurd like
one_tables reindex earlier (s ∷ ss) [] a b like h k = absurd like
one_tables reindex earlier (s ∷ ss) (t ∷ ts) a b like h k =
    let x = then_ok (TableOpening reindex earlier s) (λ (u : NamedTable). TablesOpening reindex (earlier ++ u ∷ []) ss) a h in
    let y = then_ok (TableOpening reindex earlier t) (λ (u : NamedTable). TablesOpening reindex (earlier ++ u ∷ []) ts) b k in
    let same : x.0 ≡ y.0 = one_table_opened reindex earlier s t x.0 y.0 like.0 x.1 y.1 in
    one_tables reindex (earlier ++ y.0 ∷ []) ss ts a b like.1 (subst (λ (u : NamedTable). TablesOpening reindex (earlier ++ u ∷ []) ss (Ok a)) same x.2) y.2

same_opened : (a b : Opened) → a.stations ≡ b.stations → a.tables ≡ b.tables → a ≡ b
same_opened a b s t i = record { stations = s i; tables = t i }

-- the same files open as the same tables
pub one_opening : (files : List NamedFile) (setup : List ℕ) → OpensAsOne files setup
one_opening files setup reindex a b h k =
    let like : IsLikeRead h.read k.read = reads_alike files setup h.read k.read h.all k.all in
    let none : List NamedTable = [] in
    let x = passing_ok (count_tests (length h.read.tables) (length h.read.scripts)) (TablesOpening reindex none h.read.tables) a.tables h.from.opening in
    let y = passing_ok (count_tests (length k.read.tables) (length k.read.scripts)) (TablesOpening reindex none k.read.tables) b.tables k.from.opening in
    same_opened a b
    (h.from.stations ∙ ap (λ (l : List (List ℕ)). length l) like.scripts ∙ sym k.from.stations)
    (one_tables reindex none h.read.tables k.read.tables a.tables b.tables like.tables x.1 y.1)

-- ---- files that are there still

memo_still : (files later : List NamedFile) (path memo : Option (List ℕ)) → HaveStill files later → IsMemoFileOf (Some files) path memo → IsMemoFileOf (Some later) path memo
memo_still files later None memo still h = h
memo_still files later (Some path) memo still h = (h.0, still path h.0 h.1, h.2)

content_still : (files later : List NamedFile) (dbf : List ℕ) (dbt : Option (List ℕ)) (table : Table) → HaveStill files later → IsTableOfFiles (Some files) dbf dbt table → IsTableOfFiles (Some later) dbf dbt table
content_still files later dbf dbt table still t = record {
  bytes = t.bytes;
  memo = t.memo;
  found = still dbf t.bytes t.found;
  memo_found = memo_still files later dbt t.memo still t.memo_found;
  is = t.is;
}

loads_still : (files later : List NamedFile) (entry : SetupEntry) (a b : Read) → HaveStill files later → Loads (Some files) entry a b → Loads (Some later) entry a b
loads_still files later (OfTable name dbf dbt) a b still h =
    let t = h.1 in
    (h.0, record { content = content_still files later dbf dbt h.0.content still t.content; named = t.named; plain = t.plain }, h.2)
loads_still files later (OfIndex table name ndx) a b still h =
    let x = h.1 in
    (h.0, record { content = record { bytes = x.content.bytes; found = still ndx x.content.bytes x.content.found; is = x.content.is }; named = x.named }, h.2, h.3)
loads_still files later (Station script) a b still h = (h.0, still script h.0 h.1, h.2)

load_all_still : (files later : List NamedFile) (entries : List SetupEntry) (a b : Read) → HaveStill files later → LoadAll (Some files) entries a b → LoadAll (Some later) entries a b
load_all_still files later [] a b still h = h
load_all_still files later (entry ∷ entries) a b still h = (h.0, loads_still files later entry a h.0 still h.1, load_all_still files later entries h.0 b still h.2)

-- so do later files that have each of them still
pub opens_as_before : (files later : List NamedFile) (setup : List ℕ) → HaveStill files later → OpensAsBefore files later setup
opens_as_before files later setup still reindex opened h = record {
  read = h.read;
  all = record {
    entries = h.all.entries;
    said = record { text = h.all.said.text; found = still setup h.all.said.text h.all.said.found; says = h.all.said.says };
    loaded = load_all_still files later h.all.entries nothing h.read still h.all.loaded;
  };
  from = h.from;
}
