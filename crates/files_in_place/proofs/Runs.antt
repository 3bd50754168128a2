-- How a run of a disk's calls goes on, and what a crash in it leaves.
use Rattle.std.proofs.Common.{inl, inr, ⊎_elim, refl, ◌∙◌, arith}
use Rattle.files_in_place.specs.Folder.{Name, Folder, SameBut}
use Rattle.files_in_place.specs.Disk.{DiskMeaning, AfterStep, ComesBy, Shrinks, Elapses, OnlyReads, ChangesFile, LeavesOnly, Steps}

-- a relation between folders that holds of no step and of two
pub record IsStep (step : Folder → Folder → Type 0) : Type 0 where
  pub still : (d : Folder) → step d d
  pub both : (a b c : Folder) → step a b → step b c → step a c

-- what shrinks follows by no step
pub stays : (step : Folder → Folder → Type 0) → IsStep step → (old new : Folder → Type 0) → Shrinks old new → ComesBy step old new
stays step is old new shrinks c now = (c, shrinks c now, is.still c)

-- a step that says more, where the outcomes before it allow it
pub comes_by : (step more : Folder → Folder → Type 0) (old new : Folder → Type 0) → ComesBy step old new → ((d : Folder) → old d → (c : Folder) → step d c → more d c) → ComesBy more old new
comes_by step more old new follows by c now =
    let from = follows c now in
    (from.0, from.1, by from.0 from.1 c from.2)

pub comes_both : (step : Folder → Folder → Type 0) → IsStep step → (old mid new : Folder → Type 0) → ComesBy step old mid → ComesBy step mid new → ComesBy step old new
comes_both step is old mid new first second c now =
    let from = second c now in
    let start = first from.0 from.1 in
    (start.0, start.1, is.both start.0 from.0 c start.2 from.2)

pub same_but_step : (name : Name) → IsStep (SameBut name)
same_but_step name = record { still = λ d n other. refl; both = λ a b c first second n other. second n other ∙ first n other }

module _ {D : Type 0} (m : DiskMeaning D) where
  -- before the first call
  pub started : (old : D) (P : Folder → Type 0) → ((c : Folder) → m.may_leave old c → P c) → LeavesOnly m old old P
  started old P here = record { later = omega arith; each = λ c left. here c (m.only_now old c left); before = λ t c le left. inl left; keeps = λ t c le was. was }

  -- one call more, after which a crash leaves what has P
  pub goes_on : (old mid new : D) (P : Folder → Type 0) → LeavesOnly m old mid P → Elapses m mid new
      → ((c : Folder) → m.may_leave new c → P c) → LeavesOnly m old new P
  goes_on old mid new P so_far time here = record {
    later = omega (arith, so_far.later, time.later);
    each = λ c left. ⊎_elim (so_far.each c) (here c) (time.nothing_else (m.moment old) c so_far.later left);
    before = λ t c le left. ⊎_elim (so_far.before t c le) (λ now. inr (here c now)) (time.nothing_else t c (omega (arith, le, so_far.later)) left);
    keeps = λ t c le was. time.keeps t c (omega (arith, le, so_far.later)) (so_far.keeps t c le was);
  }

  -- a run more, in which a crash at any moment leaves what has Q
  pub runs_on : (old mid new : D) (P Q : Folder → Type 0) → LeavesOnly m old mid P → LeavesOnly m mid new Q → ((c : Folder) → Q c → P c) → LeavesOnly m old new P
  runs_on old mid new P Q so_far next here = record {
    later = omega (arith, so_far.later, next.later);
    each = λ c left. ⊎_elim (so_far.each c) (here c) (next.before (m.moment old) c so_far.later left);
    before = λ t c le left. ⊎_elim (so_far.before t c le) (λ now. inr (here c now)) (next.before t c (omega (arith, le, so_far.later)) left);
    keeps = λ t c le was. next.keeps t c (omega (arith, le, so_far.later)) (so_far.keeps t c le was);
  }

  pub leaves_by : (old new : D) (P Q : Folder → Type 0) → LeavesOnly m old new P → ((c : Folder) → P c → Q c) → LeavesOnly m old new Q
  leaves_by old new P Q leaves by = record {
    later = leaves.later;
    each = λ c left. by c (leaves.each c left);
    before = λ t c le left. ⊎_elim (λ was. inl was) (λ now. inr (by c now)) (leaves.before t c le left);
    keeps = leaves.keeps;
  }

  pub no_call : (step : Folder → Folder → Type 0) → IsStep step → (old : D) → Steps m step old old
  no_call step is old = record {
    crash = λ c now. (c, now, is.still c);
    moments = started old (AfterStep step (m.may_leave old)) (λ c now. (c, now, is.still c));
  }

  pub and_then : (step : Folder → Folder → Type 0) → IsStep step → (old mid new : D) → Steps m step old mid → Steps m step mid new → Steps m step old new
  and_then step is old mid new first second = record {
    crash = comes_both step is (m.may_leave old) (m.may_leave mid) (m.may_leave new) first.crash second.crash;
    moments = runs_on old mid new (AfterStep step (m.may_leave old)) (AfterStep step (m.may_leave mid)) first.moments second.moments (λ c from.
        let start = first.crash from.0 from.1 in
        (start.0, start.1, is.both start.0 from.0 c start.2 from.2));
  }

  -- one call more, by the step
  pub then_call : (step : Folder → Folder → Type 0) → IsStep step → (old mid new : D) → Steps m step old mid → Elapses m mid new → ComesBy step (m.may_leave mid) (m.may_leave new)
      → Steps m step old new
  then_call step is old mid new so_far time crash =
      and_then step is old mid new so_far (record { crash = crash; moments = goes_on mid mid new (AfterStep step (m.may_leave mid)) (no_call step is mid).moments time crash })

  -- one call more, which changes no file
  pub then_reads : (step : Folder → Folder → Type 0) → IsStep step → (old mid new : D) → Steps m step old mid → OnlyReads m mid new → Steps m step old new
  then_reads step is old mid new so_far reads = then_call step is old mid new so_far reads.time (stays step is (m.may_leave mid) (m.may_leave new) reads.crash)

  pub one_call : (step : Folder → Folder → Type 0) → IsStep step → (old new : D) → Elapses m old new → ComesBy step (m.may_leave old) (m.may_leave new) → Steps m step old new
  one_call step is old new time crash = then_call step is old old new (no_call step is old) time crash

  pub one_reads : (step : Folder → Folder → Type 0) → IsStep step → (old new : D) → OnlyReads m old new → Steps m step old new
  one_reads step is old new reads = then_reads step is old old new (no_call step is old) reads

  -- one call more, which changes the file of a name
  pub then_changes : (name : Name) (old mid new : D) → Steps m (SameBut name) old mid → ChangesFile m name mid new → Steps m (SameBut name) old new
  then_changes name old mid new so_far changes = then_call (SameBut name) (same_but_step name) old mid new so_far changes.time changes.crash

  pub one_changes : (name : Name) (old new : D) → ChangesFile m name old new → Steps m (SameBut name) old new
  one_changes name old new changes = then_changes name old old new (no_call (SameBut name) (same_but_step name) old) changes

  -- a run that says more of each step, where the outcomes before it allow it
  pub steps_where : (step more : Folder → Folder → Type 0) (old new : D) → Steps m step old new → ((d : Folder) → m.may_leave old d → (c : Folder) → step d c → more d c) → Steps m more old new
  steps_where step more old new steps by = record {
    crash = comes_by step more (m.may_leave old) (m.may_leave new) steps.crash by;
    moments = leaves_by old new (AfterStep step (m.may_leave old)) (AfterStep more (m.may_leave old)) steps.moments (λ c from. (from.0, from.1, by from.0 from.1 c from.2));
  }

  -- no call
  pub reads_none : (old : D) → OnlyReads m old old
  reads_none old = record {
    seen = refl;
    whole = λ n is. is;
    crash = λ c now. now;
    time = record { later = omega arith; nothing_else = λ t c le left. inl left; keeps = λ t c le was. was };
  }

  -- Two calls that change no file. What a crash between them leaves might have been left before the first.
  pub reads_both : (old mid new : D) → OnlyReads m old mid → OnlyReads m mid new → OnlyReads m old new
  reads_both old mid new first second = record {
    seen = second.seen ∙ first.seen;
    whole = λ n is. second.whole n (first.whole n is);
    crash = λ c now. first.crash c (second.crash c now);
    time = record {
      later = omega (arith, first.time.later, second.time.later);
      nothing_else = λ t c le left. ⊎_elim
          (λ was. ⊎_elim (λ before. inl before) (λ between. inl (m.counts_now old t c le (first.crash c between))) (first.time.nothing_else t c le was))
          (λ now. inr now)
          (second.time.nothing_else t c (omega (arith, le, first.time.later)) left);
      keeps = λ t c le was. second.time.keeps t c (omega (arith, le, first.time.later)) (first.time.keeps t c le was);
    };
  }
