use Rattle.std.proofs.Common.{ℕ, ◌≡◌, ◌++◌, List, [], ◌∷◌, Option, Some, option_map, inl, refl, sym, ◌∙◌, ap, subst}
use Rattle.files_in_place.specs.Folder.{Name, Folder, SameBut, temporary}
use Rattle.files_in_place.specs.Disk.{LeavesOnly}
use Rattle.files_in_place.specs.Recovery.{SameFree}
use Rattle.files_in_place.specs.Staged.{IsOldOrNew, with_staged}
use Rattle.files_in_place.proofs.Meaning.{free_other}
use Rattle.files_in_place.proofs.Runs.{runs_on, leaves_by}
use Rattle.files_in_place.proofs.Uncommitted.{some_inj}
use Rattle.live_log.specs.Placing.{IsOldOrPlacedWith}
use Rattle.live_log.proofs.PlacingLaws.{old_files, has_placed, old_or_placed, placed_clean}
use Rattle.live_log.proofs.placing.place_with.Goals as goal

pub returns-in_err-begin-clause-any_moment : goal.returns-in_err-begin-clause-any_moment
returns-in_err-begin-clause-any_moment g c keeps =
    let m = g.D.Disk.meaning in
    let old = m.seen c.args.set.now.disk in
    leaves_by m c.args.set.now.disk c.begin.new.self.disk _ (IsOldOrPlacedWith c.args.name.now c.args.bytes.now c.args.set.now.names old) (c.begin.ensures.any_moment keeps c.requires.staging)
    (λ (f : Folder) has. inl (old_files old old (λ n free. refl) f has))

pub returns-in_err-write-clause-any_moment : goal.returns-in_err-write-clause-any_moment
returns-in_err-write-clause-any_moment g c keeps =
    let m = g.D.Disk.meaning in
    let name = c.args.name.now in
    let old = m.seen c.args.set.now.disk in
    let P = IsOldOrPlacedWith name c.args.bytes.now c.args.set.now.names old in
    let begun = leaves_by m c.args.set.now.disk c.begin.new.self.disk _ P (c.begin.ensures.any_moment keeps c.requires.staging)
    (λ (f : Folder) has. inl (old_files old old (λ n free. refl) f has)) in
    let same : SameFree old (m.seen c.begin.new.self.disk) = λ n free. c.begin.ensures.others n (free_other n (temporary name) free refl) in
    runs_on m c.args.set.now.disk c.begin.new.self.disk c.write.new.self.disk P _ begun (c.write.ensures.any_moment keeps c.in_ok-begin.ensures.staging)
    (λ (f : Folder) has. inl (old_files old (m.seen c.begin.new.self.disk) same f has))

pub returns-in_err-finish-clause-any_moment : goal.returns-in_err-finish-clause-any_moment
returns-in_err-finish-clause-any_moment g c keeps =
    let m = g.D.Disk.meaning in
    let name = c.args.name.now in
    let bytes = c.args.bytes.now in
    let names = c.args.set.now.names in
    let old = m.seen c.args.set.now.disk in
    let now = m.seen c.write.new.self.disk in
    let current = c.in_ok-begin.ensures.current in
    let others : SameBut (temporary name) old now = λ n other.
    c.write.ensures.others n (λ is. other (some_inj n (temporary name) (sym is ∙ current))) ∙ c.begin.ensures.others n other in
    let lies : now (temporary name) ≡ Some bytes =
    c.in_ok-write.ensures.written keeps (temporary name) current ∙ ap (λ (o : Option (List ℕ)). option_map (λ content. content ++ bytes) o) (c.in_ok-begin.ensures.empty keeps) in
    let all : c.write.new.self.names ≡ names ++ name ∷ [] = c.write.ensures.names ∙ c.in_ok-begin.ensures.begun in
    let P = IsOldOrPlacedWith name bytes names old in
    let begun = leaves_by m c.args.set.now.disk c.begin.new.self.disk _ P (c.begin.ensures.any_moment keeps c.requires.staging)
    (λ (f : Folder) has. inl (old_files old old (λ n free. refl) f has)) in
    let same : SameFree old (m.seen c.begin.new.self.disk) = λ n free. c.begin.ensures.others n (free_other n (temporary name) free refl) in
    let written = runs_on m c.args.set.now.disk c.begin.new.self.disk c.write.new.self.disk P _ begun (c.write.ensures.any_moment keeps c.in_ok-begin.ensures.staging)
    (λ (f : Folder) has. inl (old_files old (m.seen c.begin.new.self.disk) same f has)) in
    let finish = subst (λ (ns : List Name). LeavesOnly m c.write.new.self.disk c.finish.new.self.disk (IsOldOrNew ns now)) all (c.finish.ensures.any_moment keeps c.in_ok-write.ensures.staging) in
    runs_on m c.args.set.now.disk c.write.new.self.disk c.finish.new.self.disk P _ written finish
    (λ (f : Folder) to. old_or_placed name bytes names old now c.requires.name others lies f to)

pub returns-clause-any_moment : goal.returns-clause-any_moment
returns-clause-any_moment g c keeps =
    let m = g.D.Disk.meaning in
    let name = c.args.name.now in
    let bytes = c.args.bytes.now in
    let names = c.args.set.now.names in
    let old = m.seen c.args.set.now.disk in
    let now = m.seen c.write.new.self.disk in
    let current = c.in_ok-begin.ensures.current in
    let others : SameBut (temporary name) old now = λ n other.
    c.write.ensures.others n (λ is. other (some_inj n (temporary name) (sym is ∙ current))) ∙ c.begin.ensures.others n other in
    let lies : now (temporary name) ≡ Some bytes =
    c.in_ok-write.ensures.written keeps (temporary name) current ∙ ap (λ (o : Option (List ℕ)). option_map (λ content. content ++ bytes) o) (c.in_ok-begin.ensures.empty keeps) in
    let all : c.write.new.self.names ≡ names ++ name ∷ [] = c.write.ensures.names ∙ c.in_ok-begin.ensures.begun in
    let P = IsOldOrPlacedWith name bytes names old in
    let begun = leaves_by m c.args.set.now.disk c.begin.new.self.disk _ P (c.begin.ensures.any_moment keeps c.requires.staging)
    (λ (f : Folder) has. inl (old_files old old (λ n free. refl) f has)) in
    let same : SameFree old (m.seen c.begin.new.self.disk) = λ n free. c.begin.ensures.others n (free_other n (temporary name) free refl) in
    let written = runs_on m c.args.set.now.disk c.begin.new.self.disk c.write.new.self.disk P _ begun (c.write.ensures.any_moment keeps c.in_ok-begin.ensures.staging)
    (λ (f : Folder) has. inl (old_files old (m.seen c.begin.new.self.disk) same f has)) in
    let finish = subst (λ (ns : List Name). LeavesOnly m c.write.new.self.disk c.finish.new.self.disk (IsOldOrNew ns now)) all (c.finish.ensures.any_moment keeps c.in_ok-write.ensures.staging) in
    runs_on m c.args.set.now.disk c.write.new.self.disk c.finish.new.self.disk P _ written finish
    (λ (f : Folder) to. old_or_placed name bytes names old now c.requires.name others lies f to)

pub returns-clause-placed : goal.returns-clause-placed
returns-clause-placed g c keeps =
    let m = g.D.Disk.meaning in
    let name = c.args.name.now in
    let bytes = c.args.bytes.now in
    let names = c.args.set.now.names in
    let old = m.seen c.args.set.now.disk in
    let now = m.seen c.write.new.self.disk in
    let current = c.in_ok-begin.ensures.current in
    let others : SameBut (temporary name) old now = λ n other.
    c.write.ensures.others n (λ is. other (some_inj n (temporary name) (sym is ∙ current))) ∙ c.begin.ensures.others n other in
    let lies : now (temporary name) ≡ Some bytes =
    c.in_ok-write.ensures.written keeps (temporary name) current ∙ ap (λ (o : Option (List ℕ)). option_map (λ content. content ++ bytes) o) (c.in_ok-begin.ensures.empty keeps) in
    let all : c.write.new.self.names ≡ names ++ name ∷ [] = c.write.ensures.names ∙ c.in_ok-begin.ensures.begun in
    let done = subst (λ (ns : List Name). (n : Name) → m.seen c.finish.new.self.disk n ≡ with_staged ns now n) all (c.in_ok-finish.ensures.done keeps) in
    has_placed name bytes names old now c.requires.name others lies (m.seen c.finish.new.self.disk) done

pub returns-clause-clean : goal.returns-clause-clean
returns-clause-clean g c keeps =
    let m = g.D.Disk.meaning in
    placed_clean c.write.new.self.names (m.seen c.write.new.self.disk) (m.seen c.finish.new.self.disk) (c.in_ok-finish.ensures.done keeps)
