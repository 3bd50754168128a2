-- The files that an audit of a run's journal writes on the run's day are the run's.
use Rattle.std.proofs.Common.{◌≡◌, ◌≢◌, ℕ, suc, ◌+◌, ◌^◌, ◌<◌, Bool, true, false, List, [], ◌∷◌, ◌++◌, Some, map, length, refl, sym, ap, ◌∙◌, subst, arith, append_assoc}
use Rattle.std.specs.Prelude.{codes, slice_get, bytes_eq, ◌||◌, if◌then◌else◌}
use Rattle.std.specs.Fmt.{decimal}
use Rattle.std.proofs.lemmas.List.{length-append, append-nil, map-append}
use Rattle.std.proofs.lemmas.Slice.Eq.{bytes_eq-Decides}
use Rattle.dbf_fields.specs.declared.day.Day.{Day}
use Rattle.dbf_fields.specs.declared.format.TheConstants.{BLANK}
use Rattle.dbf_image.specs.Table.{has_memos}
use Rattle.dbf_image.specs.Image.{image}
use Rattle.dbf_image.specs.Blocks.{memo_image}
use Rattle.catalogue_core.specs.declared.entry.Entry.{Entry}
use Rattle.catalogue_core.specs.Replay.{Opened, History, LegalFrom, AreOfStations}
use Rattle.catalogue_core.specs.State.{State}
use Rattle.catalogue_core.specs.Step.{step}
use Rattle.journal_file.specs.declared.sum.FileSum.{FileSum}
use Rattle.journal_file.specs.WholeText.{whole_text, wrote_word, BeginsWithNoSum, WholeJournal}
use Rattle.journal_file.proofs.TextLaws.{sum_shorter, sums_one}
use Rattle.office_run.specs.declared.closed.ClosedTable.{ClosedTable}
use Rattle.folders.specs.declared.named.NamedFile.{NamedFile}
use Rattle.office_run.specs.Closing.{answer_files, index_file, run_files, table_files, tables_files}
use Rattle.folders.specs.Files.{IsFileOf}
use Rattle.station_lines.specs.declared.script.format.TheConstants.{LF}
use Rattle.station_lines.specs.CommandLines.{text_of_command}
use Rattle.station_lines.specs.JournalLines.{entry_and, journal_text, line_parts, lines_and, HasSmallNumbers}
use Rattle.station_lines.proofs.JournalLaws.{entry_one}
use Rattle.audit.specs.Audits.{AreOfLines, IsJournalOf}
use Rattle.audit.proofs.AuditLaws.{command_one}
use Rattle.office_run.specs.declared.counts.CommandCounts.{CommandCounts}
use Rattle.office_run.specs.FileSums.{sum_of_named}
use Rattle.office_run.specs.HandedOver.{AreHandedOver, IsHandedOver}
use Rattle.office_run.specs.OpenedSetup.{HaveStill}
use Rattle.office_run.specs.Served.{IsServed}
use Rattle.office_run.specs.TablesWritten.{dated_files}
use Rattle.audit_program.specs.declared.audited.Audited.{Audited}
use Rattle.audit_program.specs.declared.options.Options.{Options}
use Rattle.audit_program.specs.Comparing.{AreLinesOf, are_of_run, is_of_run, same_content, same_file}
use Rattle.audit_program.specs.Writing.{IsWrittenBy}
use Rattle.audit_program.proofs.RunJournals.{and_both, entries_of_run, one_text, one_told, same_content_as_itself, same_tables}

-- ---- one journal

-- an entry's numbers are no greater than its text is long
small_numbers : (e : ℕ × List ℕ × List ℕ) (rest : List ℕ) → length (entry_and e rest) < 2 ^ 64 → e.0 < 2 ^ 64 → HasSmallNumbers e
small_numbers e rest long small =
    let t4 = e.2 ++ (LF ∷ rest) in
    let t3 = e.1 ++ (BLANK ∷ t4) in
    let t2 = decimal (length e.2) ++ (BLANK ∷ t3) in
    let t1 = decimal (length e.1) ++ (BLANK ∷ t2) in
    let l0 = length-append (decimal e.0) (BLANK ∷ t1) in
    let l1 = length-append (decimal (length e.1)) (BLANK ∷ t2) in
    let l2 = length-append (decimal (length e.2)) (BLANK ∷ t3) in
    let l3 = length-append e.1 (BLANK ∷ t4) in
    let l4 = length-append e.2 (LF ∷ rest) in
    (small, omega (arith, long, l0, l1, l2, l3, l4), omega (arith, long, l0, l1, l2, l3, l4))

-- what stands after its line is shorter
rest_shorter : (e : ℕ × List ℕ × List ℕ) (rest : List ℕ) → length rest < length (entry_and e rest)
rest_shorter e rest =
    let t4 = e.2 ++ (LF ∷ rest) in
    let t3 = e.1 ++ (BLANK ∷ t4) in
    let t2 = decimal (length e.2) ++ (BLANK ∷ t3) in
    let t1 = decimal (length e.1) ++ (BLANK ∷ t2) in
    let l0 = length-append (decimal e.0) (BLANK ∷ t1) in
    let l1 = length-append (decimal (length e.1)) (BLANK ∷ t2) in
    let l2 = length-append (decimal (length e.2)) (BLANK ∷ t3) in
    let l3 = length-append e.1 (BLANK ∷ t4) in
    let l4 = length-append e.2 (LF ∷ rest) in
    omega (arith, l0, l1, l2, l3, l4)

not_nothing : (e : ℕ × List ℕ × List ℕ) (rest : List ℕ) → [] ≢ entry_and e rest
not_nothing e rest is = let shorter : length rest < length (entry_and e rest) = rest_shorter e rest in let none : 0 ≡ length (entry_and e rest) = ap length is in omega (arith, shorter, none)

-- the entries of a legal history are known by their text
one_journal : (opened : Opened) (s : State) (xs ys : List Entry) → opened.stations < 2 ^ 64 → length (journal_text xs) < 2 ^ 64 → LegalFrom s xs → LegalFrom s ys → AreOfStations opened xs → AreOfStations opened ys → AreOfLines xs → AreOfLines ys
    → journal_text xs ≡ journal_text ys → xs ≡ ys
one_journal opened s [] [] few long lx ly sx sy ox oy same = refl
one_journal opened s [] (y ∷ ys) few long lx ly sx sy ox oy same = absurd (not_nothing (line_parts y) (journal_text ys) same)
one_journal opened s (x ∷ xs) [] few long lx ly sx sy ox oy same = absurd (not_nothing (line_parts x) (journal_text xs) (sym same))
one_journal opened s (x ∷ xs) (y ∷ ys) few long lx ly sx sy ox oy same =
    let other : length (journal_text (y ∷ ys)) < 2 ^ 64 = subst (λ (l : List ℕ). length l < 2 ^ 64) same long in
    let hx : HasSmallNumbers (line_parts x) = small_numbers (line_parts x) (journal_text xs) long (omega (arith, few, sx.0.1)) in
    let hy : HasSmallNumbers (line_parts y) = small_numbers (line_parts y) (journal_text ys) other (omega (arith, few, sy.0.1)) in
    let one = entry_one (line_parts x) (line_parts y) (journal_text xs) (journal_text ys) hx hy same in
    let station : x.station ≡ y.station = ap (λ (e : ℕ × List ℕ × List ℕ). e.0) one.entry in
    let line : text_of_command x.command ≡ text_of_command y.command = ap (λ (e : ℕ × List ℕ × List ℕ). e.1) one.entry in
    let command : x.command ≡ y.command = command_one x.command y.command ox.0 oy.0 line in
    let answer : x.answer ≡ y.answer = lx.0 ∙ ((λ i. (step s (station i) (command i)).1) ∙ sym ly.0) in
    let state : (step s x.station x.command).0 ≡ (step s y.station y.command).0 = λ i. (step s (station i) (command i)).0 in
    let short : length (journal_text xs) < 2 ^ 64 = omega (arith, long, rest_shorter (line_parts x) (journal_text xs)) in
    let more : xs ≡ ys = one_journal opened (step s y.station y.command).0 xs ys few short (subst (λ (t : State). LegalFrom t xs) state lx.1) ly.1 sx.1 sy.1 ox.1 oy.1 one.rest in
    λ i. record { station = station i; command = command i; answer = answer i } ∷ more i

-- ---- the tables at its end

files_of_one : (year month day : ℕ) (a b : ClosedTable) → a.name ≡ b.name → a.content ≡ b.content → a.indexes.items ≡ b.indexes.items → table_files year month day a ≡ table_files year month day b
files_of_one year month day a b name content indexes =
    λ i. record { name = name i ++ codes ".DBF"; bytes = image (content i) year month day }
    ∷ ((if has_memos (content i).schema then record { name = name i ++ codes ".DBT"; bytes = memo_image (content i) } ∷ [] else []) ++ map index_file (indexes i))

handed_files : (year month day number : ℕ) (h : History) (a b : ClosedTable) → IsHandedOver h number a → IsHandedOver h number b → table_files year month day a ≡ table_files year month day b
handed_files year month day number h a b ha hb =
    let named : Some a.name ≡ Some b.name = sym ha.named ∙ hb.named in
    let name : a.name ≡ b.name = cc in
    files_of_one year month day a b name (ha.content ∙ sym hb.content) (ha.indexes ∙ sym hb.indexes)

all_files_of_one : (year month day : ℕ) (xs ys : List ClosedTable) → length xs ≡ length ys
    → ((i : ℕ) → i < length xs → (a b : ClosedTable) → slice_get xs i ≡ Some a → slice_get ys i ≡ Some b → table_files year month day a ≡ table_files year month day b) → tables_files year month day xs ≡ tables_files year month day ys
all_files_of_one year month day [] [] long each = refl
all_files_of_one year month day [] (y ∷ ys) long each = absurd (omega (arith, long))
all_files_of_one year month day (x ∷ xs) [] long each = absurd (omega (arith, long))
all_files_of_one year month day (x ∷ xs) (y ∷ ys) long each =
    let first : table_files year month day x ≡ table_files year month day y = each 0 (omega arith) x y refl refl in
    let more : tables_files year month day xs ≡ tables_files year month day ys = all_files_of_one year month day xs ys (omega (arith, long)) (λ i less a b at by. each (suc i) (omega (arith, less)) a b at by) in
    λ i. first i ++ more i

-- the table of a number, where the tables are handed over
handed_at : (h : History) (tables : List ClosedTable) (i : ℕ) (a : ClosedTable) → AreHandedOver h tables → i < length tables → slice_get tables i ≡ Some a → IsHandedOver h (i + 1) a
handed_at h tables i a handed inside at =
    let low : i < length h.opened.tables = omega (arith, inside, handed.count) in
    let one = handed.each i low in
    let found : Some one.0 ≡ Some a = sym one.1 ∙ at in
    let same : one.0 ≡ a = cc in
    subst (λ (t : ClosedTable). IsHandedOver h (i + 1) t) same one.2

-- they are handed over as one
handed_over_one : (today : Day) (h : History) (xs ys : List ClosedTable) → AreHandedOver h xs → AreHandedOver h ys → tables_files today.year today.month today.day xs ≡ tables_files today.year today.month today.day ys
handed_over_one today h xs ys hx hy =
    let long : length xs ≡ length ys = hx.count ∙ sym hy.count in
    all_files_of_one today.year today.month today.day xs ys long
    (λ i less a b at by. handed_files today.year today.month today.day (i + 1) h a b (handed_at h xs i a hx less at) (handed_at h ys i b hy (omega (arith, less, long)) by))

-- ---- files among those that were written

or_true : (first rest : Bool) → rest ≡ true → (first || rest) ≡ true
or_true true rest is = refl
or_true false rest is = is

or_at_once : (first rest : Bool) → first ≡ true → (first || rest) ≡ true
or_at_once true rest is = refl
or_at_once false rest is = absurd cc

same_as_itself : (file : FileSum) → same_file file file ≡ true
same_as_itself file = and_both (bytes_eq file.path file.path) (same_content file file) ((bytes_eq-Decides file.path file.path).1 refl) (same_content_as_itself file)

is_there : (before : List FileSum) (file : FileSum) (others : List FileSum) → is_of_run (before ++ file ∷ others) file ≡ true
is_there [] file others = or_at_once (same_file file file) (is_of_run others file) (same_as_itself file)
is_there (first ∷ before) file others = or_true (same_file first file) (is_of_run (before ++ file ∷ others) file) (is_there before file others)

are_there : (before files others : List FileSum) → are_of_run (before ++ (files ++ others)) files ≡ true
are_there before [] others = refl
are_there before (file ∷ files) others =
    and_both (is_of_run (before ++ file ∷ (files ++ others)) file) (are_of_run (before ++ file ∷ (files ++ others)) files) (is_there before file (files ++ others))
    (subst (λ (wrote : List FileSum). are_of_run wrote files ≡ true) (append_assoc before (file ∷ []) (files ++ others)) (are_there (before ++ file ∷ []) files others))

-- the files of tables are among those of a run
among_run_files : (today : Day) (tables : List ClosedTable) (answers : List (List ℕ)) → are_of_run (map sum_of_named (run_files today tables answers)) (map sum_of_named (dated_files today tables)) ≡ true
among_run_files today tables answers =
    let of_tables : List NamedFile = tables_files today.year today.month today.day tables in
    let of_answers : List NamedFile = answer_files 1 answers in
    let wrote : map sum_of_named (of_tables ++ of_answers) ≡ map sum_of_named of_tables ++ map sum_of_named of_answers = map-append sum_of_named of_tables of_answers in
    let dated : map sum_of_named (of_tables ++ []) ≡ map sum_of_named of_tables = ap (map sum_of_named) (append-nil of_tables) in
    (λ i. are_of_run (wrote i) (dated i)) ∙ are_there [] (map sum_of_named of_tables) (map sum_of_named of_answers)

-- ---- lines

no_line_in_nothing : (word : List ℕ) → BeginsWithNoSum word []
no_line_in_nothing word sum rest small is =
    let shorter : length rest < 0 = sum_shorter word [] sum rest (record { is = is; small = small }) in
    omega (arith, shorter)

lines_one : (word lines : List ℕ) (a b : List FileSum) → AreLinesOf word lines a → AreLinesOf word lines b → a ≡ b
lines_one word lines a b ha hb = (sums_one word a b [] [] ha.are hb.are (no_line_in_nothing word) (no_line_in_nothing word) (sym ha.is ∙ hb.is)).sums

-- ---- the audit of a run's journal on the run's files

pub files_of_run : (files later : List NamedFile) (options : Options) (today : Day) (written : List NamedFile) (counts : CommandCounts) (served : IsServed (Some files) options.setup.now options.reindex today true written counts)
    → HaveStill files later → IsFileOf (Some later) options.journal.now served.text → served.run.history.opened.stations < 2 ^ 64 → length (journal_text served.run.history.journal) < 2 ^ 64
    → (made : List NamedFile) (audited : Audited) → IsWrittenBy (Some later) options today made audited
    → (wrote : List FileSum) → AreLinesOf wrote_word audited.wrote wrote → are_of_run wrote audited.written.items ≡ true
files_of_run files later options today written counts served still there few long made audited w wrote lines =
    let run : History = served.run.history in
    let journal : WholeJournal = w.all.journal in
    let in_file = w.all.asked.of_run.in_file in
    let is : served.text ≡ whole_text journal = one_text files later options today written counts served still there in_file.text in_file.found ∙ in_file.text_is in
    let opened : run.opened ≡ w.history.opened = same_tables files later options today written counts served still there w.history.opened w.all.asked.tables in
    let of_run : IsJournalOf w.history.opened (lines_and journal.entries []) run.journal =
    subst (λ (o : Opened). IsJournalOf o (lines_and journal.entries []) run.journal) opened (entries_of_run (Some files) options.setup.now options.reindex today written counts served journal in_file.whole is) in
    let holds : IsJournalOf w.history.opened (lines_and journal.entries []) w.history.journal = w.all.holds in
    let few_now : w.history.opened.stations < 2 ^ 64 = subst (λ (o : Opened). o.stations < 2 ^ 64) opened few in
    let same : run.journal ≡ w.history.journal =
    one_journal w.history.opened _ run.journal w.history.journal few_now long of_run.legal holds.legal of_run.of_stations holds.of_stations of_run.of_lines holds.of_lines (sym of_run.text_is ∙ holds.text_is) in
    let history : run ≡ w.history = λ i. record { opened = opened i; journal = same i } in
    let handed : AreHandedOver run w.tables = subst (λ (h : History). AreHandedOver h w.tables) (sym history) w.handed in
    let tables : tables_files today.year today.month today.day w.tables ≡ tables_files today.year today.month today.day served.tables = handed_over_one today run w.tables served.tables handed served.run.handed in
    let summed : audited.written.items ≡ map sum_of_named (dated_files today served.tables) =
    w.summed ∙ (ap (map sum_of_named) w.written_is ∙ ap (λ (fs : List NamedFile). map sum_of_named (fs ++ [])) tables) in
    let told : map sum_of_named (run_files today served.tables served.answers) ≡ journal.wrote =
    ap (λ (j : WholeJournal). j.wrote) (one_told (Some files) options.setup.now options.reindex today written counts served journal in_file.whole is) in
    let listed : wrote ≡ map sum_of_named (run_files today served.tables served.answers) = lines_one wrote_word audited.wrote wrote journal.wrote lines w.all.wrote ∙ sym told in
    (λ i. are_of_run (listed i) (summed i)) ∙ among_run_files today served.tables served.answers
