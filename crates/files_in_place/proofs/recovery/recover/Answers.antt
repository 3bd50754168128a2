use Rattle.std.proofs.Common.{◌≡◌, true, false, List, refl, ap, ◌∙◌, inl, inr}
use Rattle.std.proofs.lemmas.Bool.{cases_Bool, both_ways}
use Rattle.std.specs.List.{list_any}
use Rattle.std.specs.Str.{bytes_eq}
use Rattle.files_in_place.specs.Folder.{Name, temporary, list_name, names_in, is_listed}
use Rattle.files_in_place.specs.Recovery.{StillRecovers}
use Rattle.files_in_place.specs.declared.faults.RecoveryFault.TheVariants.{Unreplaced}
use Rattle.files_in_place.proofs.Runs.{and_then}
use Rattle.files_in_place.proofs.Meaning.{still_step}
use Rattle.files_in_place.proofs.Ending.{listed_at, listed_contained}
use Rattle.files_in_place.proofs.Settling.{leaves_same, leaves_less, leaves_less_on, run_less}
use Rattle.files_in_place.proofs.CutLists.{cut_bad}
use Rattle.files_in_place.proofs.recovery.recover.Goals as goal

pub returns-in-Ok-clause-any_moment : goal.returns-in-Ok-clause-any_moment
returns-in-Ok-clause-any_moment g c promised =
    let m = g.D.Disk.meaning in
    let asked = leaves_less m _ _ _ (leaves_same m c.args.disk.now) (λ f was. was) c.listed_names.ensures.only in
    let settled = leaves_less_on m _ _ _ asked c.listed_names.ensures.only.crash c.settle.ensures.any_moment in
    let before = run_less m StillRecovers still_step _ _ settled (λ f now. c.listed_names.ensures.only.crash f (c.settle.ensures.crash f now)) in
    (and_then m StillRecovers still_step _ _ _ before (c.recover_listed.ensures.steps promised)).moments

pub returns-in-Err-clause-any_moment : goal.returns-in-Err-clause-any_moment
returns-in-Err-clause-any_moment g c promised =
    let m = g.D.Disk.meaning in
    let asked = leaves_less m _ _ _ (leaves_same m c.args.disk.now) (λ f was. was) c.listed_names.ensures.only in
    let settled = leaves_less_on m _ _ _ asked c.listed_names.ensures.only.crash c.settle.ensures.any_moment in
    let before = run_less m StillRecovers still_step _ _ settled (λ f now. c.listed_names.ensures.only.crash f (c.settle.ensures.crash f now)) in
    (and_then m StillRecovers still_step _ _ _ before (c.recover_listed.ensures.steps promised)).moments

pub returns-in-Ok-clause-synced : goal.returns-in-Ok-clause-synced
returns-in-Ok-clause-synced g c promised others =
    let m = g.D.Disk.meaning in
    let same : c.deref.result.now ≡ names_in (m.seen c.args.disk.now list_name) = c.deref.ensures.value ∙ c.in_ok-names.ensures.names promised in
    c.in-Ok.ensures.synced promised (λ n free. elim (cases_Bool (is_listed (m.seen c.args.disk.now) n)) [
      | inl listed ↦
          let found : list_any (λ (name : Name). bytes_eq name n) c.deref.result.now ≡ true = ap (λ (l : List Name). list_any (λ (name : Name). bytes_eq name n) l) same ∙ listed in
          (listed_at (λ name. m.is_whole c.settle.new.disk name × m.is_whole c.settle.new.disk (temporary name)) c.deref.result.now n found c.in_ok-settle.ensures.whole).0
      | inr unlisted ↦ c.settle.ensures.kept n (c.listed_names.ensures.only.whole n (others n free unlisted))
    ])

pub returns-in-Err-clause-unreplaced : goal.returns-in-Err-clause-unreplaced
returns-in-Err-clause-unreplaced g c promised name is =
    let which : c.told.result ≡ Unreplaced name = cc is in
    listed_contained c.in_ok-names.names.items (g.D.Disk.meaning.seen c.args.disk.now) name (c.in_ok-names.ensures.names promised) (c.told.ensures.unreplaced name which).1

pub returns-in-Ok-clause-cut : goal.returns-in-Ok-clause-cut
returns-in-Ok-clause-cut g c promised cut = c.in_ok-names.ensures.refused promised (cut_bad (g.D.Disk.meaning.seen c.args.disk.now) cut)

pub returns-in-Ok-clause-cut_untouched : goal.returns-in-Ok-clause-cut_untouched
returns-in-Ok-clause-cut_untouched g c promised cut =
    absurd (both_ways false refl (c.in_ok-names.ensures.refused promised (cut_bad (g.D.Disk.meaning.seen c.args.disk.now) cut)))

pub returns-in-Err-clause-cut_untouched : goal.returns-in-Err-clause-cut_untouched
returns-in-Err-clause-cut_untouched g c promised cut =
    absurd (both_ways false refl (c.in_ok-names.ensures.refused promised (cut_bad (g.D.Disk.meaning.seen c.args.disk.now) cut)))
