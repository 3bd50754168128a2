-- What holds of the outcome of every command: what is true of every state stays true, the tables have the fields that
-- they had, and the indexes that they had first among theirs, all other stations have the areas that they had, and the
-- answer is no refusal. So a refused command leaves the state as it was.
use Rattle.std.proofs.Common.{◌≡◌, ℕ, Ok, Err, List, refl, subst}
use Rattle.std.specs.Prelude.{IfOk}
use Rattle.table_core.specs.EditValue as edit_of
use Rattle.table_core.specs.declared.refusal.Refusal.{Refusal}
use Rattle.table_core.specs.declared.refusal.Refusal.TheVariants.{NoTableInUse}
use Rattle.table_core.specs.Moves.{top, bottom, go, skip, seek, set_order}
use Rattle.table_core.specs.Shown.{show as shown}
use Rattle.table_core.specs.Laws.Moves.{top_leads, bottom_leads, go_leads, skip_leads, seek_leads, set_order_leads}
use Rattle.catalogue_core.specs.declared.answer.Answer.TheVariants.{Text, Refused}
use Rattle.catalogue_core.specs.declared.command.Command.{Command}
use Rattle.catalogue_core.specs.declared.command.Command.TheVariants.{Select, UseTable, CloseTable, Go, Top, Bottom, Skip, Seek, Order, AppendBlank, Replace, Memo, Delete, Recall, Pack, IndexOn, Unlock, UnlockAll, Show, RecordLock, RecordLocks, FileLock, Ask, Bad}
use Rattle.catalogue_core.specs.declared.command.Question.{Question}
use Rattle.catalogue_core.specs.declared.command.Question.TheVariants as question
use Rattle.catalogue_core.specs.declared.area.Area.{Area}
use Rattle.catalogue_core.specs.State.{State, area_of, table_of, HasStation, IsState}
use Rattle.catalogue_core.specs.Step.{Outcome, show_field, ask, reply, outcome, settled, step}
use Rattle.table_core.specs.Laws.Outcomes.{of_found, of_passed}
use Rattle.catalogue_core.proofs.NextLaws.{IsNext, NoRefusal, same_next, next_select, next_move, next_append, next_change, next_pack, next_unlock, next_unlock_all, next_lock_record, next_lock_records, next_lock_file}
use Rattle.catalogue_core.proofs.IndexOnLaws.{next_index_on}
use Rattle.catalogue_core.proofs.UseLaws.{next_close, next_use}

-- ?
next_show : (s : State) (station : ℕ) (name : List ℕ) → IsState s → IfOk (show_field s station name) (IsNext s station)
next_show s station name ok =
    of_found (IsNext s station) (area_of s station) NoTableInUse _ (λ area _.
    of_passed (IsNext s station) (shown (table_of s area) area.cursor name) _ (λ text _. same_next s station (Text text) tt ok))

replies : (s : State) (area : Area) (q : Question) → NoRefusal (reply q (table_of s area) area.cursor)
replies s area question.Eof = tt
replies s area question.Bof = tt
replies s area question.Found = tt
replies s area question.Deleted = tt
replies s area question.Recno = tt
replies s area question.Reccount = tt

next_ask : (s : State) (station : ℕ) (q : Question) → IsState s → IfOk (ask s station q) (IsNext s station)
next_ask s station q ok = of_found (IsNext s station) (area_of s station) NoTableInUse _ (λ area _. same_next s station _ (replies s area q) ok)

pub next_outcome : (s : State) (station : ℕ) (command : Command) → IsState s → HasStation s station → IfOk (outcome s station command) (IsNext s station)
next_outcome s station (Select number) ok h = next_select s station number ok h
next_outcome s station (UseTable name exclusive) ok h = next_use s station name exclusive ok h
next_outcome s station CloseTable ok h = next_close s station ok h
next_outcome s station (Go number) ok h = next_move s station (λ content cursor. go content cursor number) ok h (λ content cursor. go_leads content cursor number)
next_outcome s station Top ok h = next_move s station top ok h top_leads
next_outcome s station Bottom ok h = next_move s station bottom ok h bottom_leads
next_outcome s station (Skip steps) ok h = next_move s station (λ content cursor. skip content cursor steps) ok h (λ content cursor. skip_leads content cursor steps)
next_outcome s station (Seek text) ok h = next_move s station (λ content cursor. seek content cursor text) ok h (λ content cursor. seek_leads content cursor text)
next_outcome s station (Order number) ok h = next_move s station (λ content cursor. set_order content cursor number) ok h (λ content cursor. set_order_leads content cursor number)
next_outcome s station AppendBlank ok h = next_append s station ok h
next_outcome s station (Replace field value) ok h = next_change s station (edit_of.Replace field value) ok h refl
next_outcome s station (Memo field text) ok h = next_change s station (edit_of.Memo field text) ok h refl
next_outcome s station Delete ok h = next_change s station edit_of.Delete ok h refl
next_outcome s station Recall ok h = next_change s station edit_of.Recall ok h refl
next_outcome s station Pack ok h = next_pack s station ok h
next_outcome s station (IndexOn text name) ok h = next_index_on s station text name ok h
next_outcome s station Unlock ok h = next_unlock s station ok
next_outcome s station UnlockAll ok h = next_unlock_all s station ok
next_outcome s station (Show field) ok h = next_show s station field ok
next_outcome s station RecordLock ok h = next_lock_record s station ok h
next_outcome s station (RecordLocks numbers) ok h = next_lock_records s station numbers ok h
next_outcome s station FileLock ok h = next_lock_file s station ok h
next_outcome s station (Ask q) ok h = next_ask s station q ok
next_outcome s station Bad ok h = tt

refused_settled : (s : State) (station : ℕ) (o : Outcome) (refusal : Refusal) → IfOk o (IsNext s station) → (settled s o).1 ≡ Refused refusal → (settled s o).0 ≡ s
refused_settled s station (Ok end) refusal next e = absurd (subst NoRefusal e next.answer)
refused_settled s station (Err other) refusal next e = refl

-- a refused command leaves the state as it was
pub refused_step : (s : State) (station : ℕ) (command : Command) (refusal : Refusal) → IsState s → HasStation s station → (step s station command).1 ≡ Refused refusal → (step s station command).0 ≡ s
refused_step s station command refusal ok h e = refused_settled s station (outcome s station command) refusal (next_outcome s station command ok h) e
