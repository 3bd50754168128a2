-- Files after others.
use Rattle.std.proofs.Common.{◌≡◌, ℕ, ◌+◌, List, [], ◌∷◌, ◌++◌, length, map, refl, sym, ap, ◌∙◌, append_assoc, arith, Bool, true, false, cond, take, drop, get_or, ◌<◌, Option, Some, None, subst}
use Rattle.std.specs.Prelude.{codes}
use Rattle.std.proofs.lemmas.Grind.{common_steps}
use Rattle.std.proofs.lemmas.List.{append-nil, take_more, drop_more, take-append-drop}
use Rattle.byte_io.specs.Sink.{grown, IsFront}
use Rattle.folders.specs.Files.{listing}
use Rattle.office_run.specs.ClosedIndex.{IndexContent}
use Rattle.office_run.specs.Writable.{has_too_many}
use Rattle.folders.specs.declared.named.NamedFile.{NamedFile}
use Rattle.office_run.specs.declared.closed.ClosedTable.{ClosedTable}
use Rattle.dbf_image.specs.Table.{has_memos}
use Rattle.dbf_image.specs.Blocks.{memo_image}
use Rattle.office_run.specs.declared.planned.Planned.{Planned}
use Rattle.office_run.specs.Closing.{file_of, bytes_of, IsCutAt, answer_files, answer_name, tables_files, table_files, memo_files, index_file, first_blocked}

abbrev answer_file : ℕ → List ℕ → List NamedFile
answer_file n a = record { name = answer_name n; bytes = a } ∷ []

same_name : (m n : ℕ) (a : List ℕ) → m ≡ n → answer_file m a ≡ answer_file n a
same_name m n a e = ap (λ (k : ℕ). answer_file k a) e

pub answer_files_last : (n : ℕ) (texts : List (List ℕ)) (a : List ℕ)
    → answer_files n (texts ++ a ∷ []) ≡ answer_files n texts ++ record { name = answer_name (n + length texts); bytes = a } ∷ []
answer_files_last n [] a = same_name (n) (n + 0) a (omega arith)
answer_files_last n (b ∷ texts) a =
    ap (λ (fs : List NamedFile). record { name = answer_name n; bytes = b } ∷ fs)
    (answer_files_last (n + 1) texts a ∙ ap (λ (fs : List NamedFile). answer_files (n + 1) texts ++ fs) (same_name (n + 1 + length texts) (n + length (b ∷ texts)) a (omega arith)))

pub tables_files_last : (year month day : ℕ) (ts : List ClosedTable) (t : ClosedTable)
    → tables_files year month day (ts ++ t ∷ []) ≡ tables_files year month day ts ++ table_files year month day t
tables_files_last year month day [] t = append-nil (table_files year month day t)
tables_files_last year month day (u ∷ ts) t =
    ap (λ (fs : List NamedFile). table_files year month day u ++ fs) (tables_files_last year month day ts t)
    ∙ sym (append_assoc (table_files year month day u) (tables_files year month day ts) (table_files year month day t))

map_last : (ps : List Planned) (p : Planned) → map file_of (ps ++ p ∷ []) ≡ map file_of ps ++ file_of p ∷ []
map_last [] p = refl
map_last (q ∷ ps) p = ap (λ (fs : List NamedFile). file_of q ∷ fs) (map_last ps p)

-- a planned file after others
pub planned_last : (ps : List Planned) (p : Planned) (files : List NamedFile) → (file_of p ∷ []) ≡ files → map file_of (ps ++ p ∷ []) ≡ map file_of ps ++ files
planned_last ps p files e = map_last ps p ∙ ap (λ (fs : List NamedFile). map file_of ps ++ fs) e

chosen : {X : Type 0} (b : Bool) (x y : X) → b ≡ true → x ≡ cond b x y
chosen true x y e = refl
chosen false x y e = absurd cc

abbrev named : List ℕ → List ℕ → List NamedFile
named name bytes = record { name = name; bytes = bytes } ∷ []

-- the file of a table's memos
pub memos_named : (closed : ClosedTable) (name : List ℕ) → name ≡ closed.name ++ codes ".DBT" → has_memos closed.content.schema ≡ true
    → named name (memo_image closed.content) ≡ memo_files closed
memos_named closed name e has =
    ap (λ (n : List ℕ). named n (memo_image closed.content)) e
    ∙ chosen (has_memos closed.content.schema) (named (closed.name ++ codes ".DBT") (memo_image closed.content)) [] has

-- the files of a table: its own, that of its memos, and those of its indexes
pub table_last : (before one two all : List NamedFile) (file : NamedFile) (memos indexes : List NamedFile)
    → one ≡ before ++ file ∷ [] → two ≡ one ++ memos → all ≡ two ++ indexes → all ≡ before ++ file ∷ (memos ++ indexes)
table_last before one two all file memos indexes e f g =
    g ∙ (ap (λ (fs : List NamedFile). fs ++ indexes) (f ∙ ap (λ (fs : List NamedFile). fs ++ memos) e)
    ∙ (append_assoc (before ++ file ∷ []) memos indexes ∙ append_assoc before (file ∷ []) (memos ++ indexes)))

-- more after what stands after others
pub after_more : (new old before a b all : List NamedFile) → new ≡ old ++ b → old ≡ before ++ a → all ≡ a ++ b → new ≡ before ++ all
after_more new old before a b all e f h =
    e ∙ (ap (λ (fs : List NamedFile). fs ++ b) f ∙ (append_assoc before a b ∙ ap (λ (fs : List NamedFile). before ++ fs) (sym h)))

pub tables_more : (year month day : ℕ) (ts : List ClosedTable) (i : ℕ) (t : ClosedTable) → i < length ts → t ≡ get_or ts i t
    → tables_files year month day (take (i + 1) ts) ≡ tables_files year month day (take i ts) ++ table_files year month day t
tables_more year month day ts i t lt is =
    ap (λ (us : List ClosedTable). tables_files year month day us) (take_more ts i t lt ∙ ap (λ (u : ClosedTable). take i ts ++ u ∷ []) (sym is))
    ∙ tables_files_last year month day (take i ts) t

front_length : (texts : List (List ℕ)) (i : ℕ) → i < length texts → 1 + length (take i texts) ≡ i + 1
front_length texts i lt = grind (arith, common_steps)

pub answers_more : (texts : List (List ℕ)) (i : ℕ) (x name : List ℕ) (n : ℕ) → i < length texts → x ≡ get_or texts i x → name ≡ answer_name n → n ≡ i + 1
    → answer_files 1 (take (i + 1) texts) ≡ answer_files 1 (take i texts) ++ named name x
answers_more texts i x name n lt is e at =
    ap (λ (us : List (List ℕ)). answer_files 1 us) (take_more texts i x lt ∙ ap (λ (u : List ℕ). take i texts ++ u ∷ []) (sym is))
    ∙ (answer_files_last 1 (take i texts) x
    ∙ ap (λ (fs : List NamedFile). answer_files 1 (take i texts) ++ fs)
    (same_name (1 + length (take i texts)) n x (front_length texts i lt ∙ sym at) ∙ ap (λ (w : List ℕ). named w x) (sym e)))

map_append : (ps qs : List Planned) → map file_of (ps ++ qs) ≡ map file_of ps ++ map file_of qs
map_append [] qs = refl
map_append (p ∷ ps) qs = ap (λ (fs : List NamedFile). file_of p ∷ fs) (map_append ps qs)

-- what a run that failed at a place has written
pub cut_at : (ps : List Planned) (files : List NamedFile) (old new : Option (List ℕ)) (i : ℕ) (p : Planned) (name : List ℕ)
    → map file_of ps ≡ files → i < length ps → p ≡ get_or ps i p → p.name ≡ name
    → IsFront (grown old (listing (map file_of (take i ps)))) new
    → IsFront new (grown old (listing (map file_of (take (i + 1) ps)))) → IsCutAt name old new files
cut_at ps files old new i p name all lt is e whole front =
    let here : take (i + 1) ps ≡ take i ps ++ p ∷ [] = take_more ps i p lt ∙ ap (λ (q : Planned). take i ps ++ q ∷ []) (sym is) in
    let left : drop i ps ≡ p ∷ drop (i + 1) ps = drop_more ps i p lt ∙ ap (λ (q : Planned). q ∷ drop (i + 1) ps) (sym is) in
    let parts : ps ≡ take i ps ++ p ∷ drop (i + 1) ps = sym (take-append-drop i ps) ∙ ap (λ (qs : List Planned). take i ps ++ qs) left in
    let order : files ≡ map file_of (take i ps) ++ file_of p ∷ map file_of (drop (i + 1) ps) =
    sym all ∙ (ap (λ (qs : List Planned). map file_of qs) parts ∙ map_append (take i ps) (p ∷ drop (i + 1) ps)) in
    let upto : map file_of (take (i + 1) ps) ≡ map file_of (take i ps) ++ file_of p ∷ [] = ap (λ (qs : List Planned). map file_of qs) here ∙ map_last (take i ps) p in
    let whole_before_fault : IsCutAt p.name old new files = record {
      before = map file_of (take i ps);
      bytes = bytes_of p.content;
      others = map file_of (drop (i + 1) ps);
      order = order;
      whole = whole;
      front = subst (λ (fs : List NamedFile). IsFront new (grown old (listing fs))) upto front;
    } in
    subst (λ (n : List ℕ). IsCutAt n old new files) e whole_before_fault

index_map_last : (xs : List IndexContent) (x : IndexContent) → map index_file (xs ++ x ∷ []) ≡ map index_file xs ++ index_file x ∷ []
index_map_last [] x = refl
index_map_last (y ∷ xs) x = ap (λ (fs : List NamedFile). index_file y ∷ fs) (index_map_last xs x)

pub indexes_more : (xs : List IndexContent) (i : ℕ) (x : IndexContent) → i < length xs → x ≡ get_or xs i x
    → map index_file (take (i + 1) xs) ≡ map index_file (take i xs) ++ index_file x ∷ []
indexes_more xs i x lt is =
    ap (λ (ys : List IndexContent). map index_file ys) (take_more xs i x lt ∙ ap (λ (y : IndexContent). take i xs ++ y ∷ []) (sym is))
    ∙ index_map_last (take i xs) x

none_blocked : (b : Bool) (n : ℕ) (o : Option ℕ) → cond b (Some n) o ≡ None → (b ≡ false) × (o ≡ None)
none_blocked true n o e = absurd cc
none_blocked false n o e = (refl, e)

-- no table from a place on has too many blocks
pub not_blocked : (ts : List ClosedTable) (i : ℕ) (t : ClosedTable) → i < length ts → t ≡ get_or ts i t → first_blocked (i + 1) (drop i ts) ≡ None
    → (has_too_many t.content ≡ false) × (first_blocked (i + 1 + 1) (drop (i + 1) ts) ≡ None)
not_blocked ts i t lt is none =
    let left : drop i ts ≡ t ∷ drop (i + 1) ts = drop_more ts i t lt ∙ ap (λ (u : ClosedTable). u ∷ drop (i + 1) ts) (sym is) in
    none_blocked (has_too_many t.content) (i + 1) (first_blocked (i + 1 + 1) (drop (i + 1) ts)) (subst (λ (us : List ClosedTable). first_blocked (i + 1) us ≡ None) left none)
