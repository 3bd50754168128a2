-- What was shown is kept, as a day goes on.
use Rattle.std.proofs.Common.{◌≡◌, ◌≢◌, ◌⊎◌, inl, inr, ⊎_elim, ◌≤◌, ℕ, List, [], ◌∷◌, ◌++◌, length, take, map, Some, refl, sym, ◌∙◌, ap, subst, arith, append_assoc, length-append}
use Rattle.std.specs.List.{AllByRecursion}
use Rattle.std.proofs.lemmas.List.{append-nil, map-append, take-append-le, take_all}
use Rattle.catalogue_core.specs.declared.entry.Entry.{Entry}
use Rattle.catalogue_core.specs.Replay.{History, Opened, history}
use Rattle.station_lines.specs.JournalLines.{line_parts}
use Rattle.files_in_place.specs.Folder.{Name, Folder, SameBut}
use Rattle.files_in_place.specs.Disk.{DiskMeaning, IsSyncedDisk, LeavesOnly}
use Rattle.files_in_place.proofs.Runs.{started, leaves_by, runs_on}
use Rattle.live_log.specs.Gates.{LineParts, log_of}
use Rattle.live_log.specs.Logs.{IsLogPut}
use Rattle.live_log.proofs.GateLaws.{after_shut}
use Rattle.live_day.specs.Days.{DayValue, HasGoneOn, IsLogged, entries_since, parts_of}
use Rattle.live_day.specs.Shows.{ShownLine, shown_now, MayBeTold, at_count, HasFront, HasFrontIn, IsKeptLine, IsDayAfter, KeepsShown}
use Rattle.live_day.proofs.DayLaws.{since_more}

-- ---- lists

pub all_append : {A : Type 0} (P : A → Type 0) (xs ys : List A) → AllByRecursion P xs → AllByRecursion P ys → AllByRecursion P (xs ++ ys)
all_append P [] ys all more = more
all_append P (x ∷ xs) ys all more = (all.0, all_append P xs ys all.1 more)

pub all_by : {A : Type 0} (P Q : A → Type 0) → ((x : A) → P x → Q x) → (xs : List A) → AllByRecursion P xs → AllByRecursion Q xs
all_by P Q by [] all = tt
all_by P Q by (x ∷ xs) all = (by x all.0, all_by P Q by xs all.1)

length-parts : (entries : List Entry) → length (map line_parts entries) ≡ length entries
length-parts [] = refl
length-parts (e ∷ es) = omega (arith, length-parts es)

-- ---- the journal's first entries

-- they are the first of a longer journal too
front_more : (name : Name) (head : List ℕ) (least : ℕ) (journal next more : List LineParts) (c : Folder) → next ≡ journal ++ more → HasFront name head least journal c → HasFront name head least next c
front_more name head least journal next more c is has = record {
  log = has.log;
  there = has.there;
  front = has.front;
  rest = has.rest ++ more;
  order = is ∙ ap (λ (l : List LineParts). l ++ more) has.order ∙ append_assoc has.front has.rest more;
  stands = has.stands;
  enough = has.enough;
}

pub front_less : (name other : Name) (head again : List ℕ) (least fewer : ℕ) (journal : List LineParts) (c : Folder) → other ≡ name → again ≡ head → fewer ≤ least → HasFront name head least journal c
    → HasFront other again fewer journal c
front_less name other head again least fewer journal c same still le has = record {
  log = has.log;
  there = ap c same ∙ has.there ∙ ap (λ (l : List ℕ). Some (l ++ has.log)) (sym still);
  front = has.front;
  rest = has.rest;
  order = has.order;
  stands = has.stands;
  enough = omega (arith, le, has.enough);
}

-- a crash while a group was put
front_of_put : (name : Name) (head : List ℕ) (folder c : Folder) (es group journal : List LineParts) (least : ℕ) → least ≡ length es → journal ≡ es ++ group → IsLogPut name head folder es group c
    → HasFrontIn name head least journal folder c
front_of_put name head folder c es group journal least count is put = record {
  kept = elim put.stands [
    | inl stands ↦ record {
      log = put.log;
      there = put.there;
      front = es;
      rest = group;
      order = is;
      stands = stands;
      enough = omega (arith, count);
    }
    | inr stands ↦ record {
      log = put.log;
      there = put.there;
      front = es ++ group;
      rest = [];
      order = is ∙ sym (append-nil (es ++ group));
      stands = stands;
      enough = omega (arith, count, length-append es group);
    }
  ];
  elsewhere = put.elsewhere;
}

parts_more : (old new : History) (on : HasGoneOn old new) → parts_of new.journal ≡ parts_of old.journal ++ parts_of on.more
parts_more old new on = ap parts_of on.journal ∙ map-append line_parts old.journal on.more

-- the history with the first entries is the same, however it goes on
pub at_count_more : (old new : History) (on : HasGoneOn old new) (count : ℕ) → count ≤ length old.journal → at_count new count ≡ at_count old count
at_count_more old new on count le =
    ap (λ (o : Opened). history o (take count new.journal)) on.opened
    ∙ ap (λ (es : List Entry). history old.opened (take count es)) on.journal
    ∙ ap (λ (es : List Entry). history old.opened es) (take-append-le count old.journal on.more le)

pub at_count_all : (h : History) → at_count h (length h.journal) ≡ h
at_count_all h = ap (λ (es : List Entry). history h.opened es) (take_all (length h.journal) h.journal (omega arith))

module _ {D : Type 0} (m : DiskMeaning D) where
  -- what a crash leaves where the log on the disk is that of the journal, and all that is seen is on the disk
  pub front_now : (day : DayValue D) → IsLogged m day → IsSyncedDisk m day.log.disk → (c : Folder) → m.may_leave day.log.disk c
      → HasFrontIn day.log.name day.log.head (length day.history.journal) (parts_of day.history.journal) (m.seen day.log.disk) c
  front_now day logged synced c left = record {
    kept = record {
      log = log_of (parts_of day.history.journal);
      there = synced.only c left day.log.name ∙ logged.there;
      front = parts_of day.history.journal;
      rest = [];
      order = sym (append-nil (parts_of day.history.journal));
      stands = after_shut (parts_of day.history.journal) [] logged.small;
      enough = omega (arith, length-parts day.history.journal);
    };
    elsewhere = λ n other. synced.only c left n;
  }

  -- ---- a day goes on

  pub after_none : (day : DayValue D) → (m.keeps_promises → IsLogged m day) → (m.keeps_promises → IsSyncedDisk m day.log.disk) → IsDayAfter m day day
  after_none day logged synced = record {
    name = refl;
    head = refl;
    history = record { opened = refl; more = []; journal = sym (append-nil day.history.journal) };
    others = λ n other. refl;
    moments = λ keeps. started m day.log.disk (HasFrontIn day.log.name day.log.head (length day.history.journal) (parts_of day.history.journal) (m.seen day.log.disk))
        (front_now day (logged keeps) (synced keeps));
  }

  pub after_put : (old new : DayValue D) → new.log.name ≡ old.log.name → new.log.head ≡ old.log.head → HasGoneOn old.history new.history → SameBut old.log.name (m.seen old.log.disk) (m.seen new.log.disk)
      → (m.keeps_promises → LeavesOnly m old.log.disk new.log.disk (IsLogPut old.log.name old.log.head (m.seen old.log.disk) (parts_of old.history.journal) (parts_of (entries_since old.history new.history))))
      → IsDayAfter m old new
  after_put old new name head on others moments =
      let group = parts_of (entries_since old.history new.history) in
      let is : parts_of new.history.journal ≡ parts_of old.history.journal ++ group =
      parts_more old.history new.history on ∙ ap (λ (es : List Entry). parts_of old.history.journal ++ parts_of es) (sym (since_more old.history new.history on)) in
      record {
        name = name;
        head = head;
        history = on;
        others = others;
        moments = λ keeps. leaves_by m old.log.disk new.log.disk
            (IsLogPut old.log.name old.log.head (m.seen old.log.disk) (parts_of old.history.journal) group)
            (HasFrontIn old.log.name old.log.head (length old.history.journal) (parts_of new.history.journal) (m.seen old.log.disk))
            (moments keeps)
            (λ c put. front_of_put old.log.name old.log.head (m.seen old.log.disk) c (parts_of old.history.journal) group (parts_of new.history.journal) (length old.history.journal)
            (sym (length-parts old.history.journal)) is put);
      }

  module _ (a b c : DayValue D) (first : IsDayAfter m a b) (second : IsDayAfter m b c) where
    longer : length a.history.journal ≤ length b.history.journal
    longer = omega (arith, ap length first.history.journal, length-append a.history.journal first.history.more)

    later : (x : Folder) → HasFrontIn b.log.name b.log.head (length b.history.journal) (parts_of c.history.journal) (m.seen b.log.disk) x
        → HasFrontIn a.log.name a.log.head (length a.history.journal) (parts_of c.history.journal) (m.seen a.log.disk) x
    later x has = record {
      kept = front_less b.log.name a.log.name b.log.head a.log.head (length b.history.journal) (length a.history.journal) (parts_of c.history.journal) x (sym first.name) (sym first.head) longer has.kept;
      elsewhere = λ n other. has.elsewhere n (λ is. other (is ∙ first.name)) ∙ first.others n other;
    }

    earlier : (x : Folder) → HasFrontIn a.log.name a.log.head (length a.history.journal) (parts_of b.history.journal) (m.seen a.log.disk) x
        → HasFrontIn a.log.name a.log.head (length a.history.journal) (parts_of c.history.journal) (m.seen a.log.disk) x
    earlier x has = record {
      kept = front_more a.log.name a.log.head (length a.history.journal) (parts_of b.history.journal) (parts_of c.history.journal) (parts_of second.history.more) x
          (parts_more b.history c.history second.history) has.kept;
      elsewhere = has.elsewhere;
    }

    pub after_both : IsDayAfter m a c
    after_both = record {
      name = second.name ∙ first.name;
      head = second.head ∙ first.head;
      history = record {
        opened = second.history.opened ∙ first.history.opened;
        more = first.history.more ++ second.history.more;
        journal = second.history.journal ∙ ap (λ (es : List Entry). es ++ second.history.more) first.history.journal
            ∙ append_assoc a.history.journal first.history.more second.history.more;
      };
      others = λ n other. second.others n (λ is. other (is ∙ first.name)) ∙ first.others n other;
      moments = λ keeps. runs_on m a.log.disk b.log.disk c.log.disk
          (HasFrontIn a.log.name a.log.head (length a.history.journal) (parts_of c.history.journal) (m.seen a.log.disk))
          (HasFrontIn b.log.name b.log.head (length b.history.journal) (parts_of c.history.journal) (m.seen b.log.disk))
          (leaves_by m a.log.disk b.log.disk
          (HasFrontIn a.log.name a.log.head (length a.history.journal) (parts_of b.history.journal) (m.seen a.log.disk))
          (HasFrontIn a.log.name a.log.head (length a.history.journal) (parts_of c.history.journal) (m.seen a.log.disk))
          (first.moments keeps) earlier)
          (second.moments keeps) later;
    }

  -- ---- what was shown

  -- what is kept is kept on
  kept_on : (b c : DayValue D) → IsDayAfter m b c → (s : ShownLine) → IsKeptLine m b s → IsKeptLine m c s
  kept_on b c on s kept = record {
    told = subst (λ (h : History). MayBeTold h s.station s.line) (sym (at_count_more b.history c.history on.history s.count kept.among)) kept.told;
    among = omega (arith, kept.among, ap length on.history.journal, length-append b.history.journal on.history.more);
    past = λ keeps. let ends = on.moments keeps in omega (arith, kept.past keeps, ends.later);
    kept = λ keeps x left.
        let next : parts_of c.history.journal ≡ parts_of b.history.journal ++ parts_of on.history.more = parts_more b.history c.history on.history in
        let same : (n : Name) → n ≢ c.log.name → m.seen b.log.disk n ≡ m.seen c.log.disk n = λ n other. sym (on.others n (λ is. other (is ∙ sym on.name))) in
        ⊎_elim
        (λ (was : m.left_since b.log.disk s.moment x).
        let had : HasFrontIn b.log.name b.log.head s.count (parts_of b.history.journal) (m.seen b.log.disk) x = kept.kept keeps x was in
        record {
          kept = front_less b.log.name c.log.name b.log.head c.log.head s.count s.count (parts_of c.history.journal) x on.name on.head (omega arith)
              (front_more b.log.name b.log.head s.count (parts_of b.history.journal) (parts_of c.history.journal) (parts_of on.history.more) x next had.kept);
          elsewhere = λ n other. had.elsewhere n (λ is. other (is ∙ sym on.name)) ∙ same n other;
        })
        (λ (now : HasFrontIn b.log.name b.log.head (length b.history.journal) (parts_of c.history.journal) (m.seen b.log.disk) x).
        record {
          kept = front_less b.log.name c.log.name b.log.head c.log.head (length b.history.journal) s.count (parts_of c.history.journal) x on.name on.head kept.among now.kept;
          elsewhere = λ n other. now.elsewhere n (λ is. other (is ∙ sym on.name)) ∙ same n other;
        })
        ((on.moments keeps).before s.moment x (kept.past keeps) left);
  }

  -- what is shown now is kept
  kept_now : (day : DayValue D) (station : ℕ) (line : List ℕ) → (m.keeps_promises → IsLogged m day) → (m.keeps_promises → IsSyncedDisk m day.log.disk)
      → MayBeTold day.history station line → IsKeptLine m day (shown_now m day station line)
  kept_now day station line logged synced told = record {
    told = subst (λ (h : History). MayBeTold h station line) (sym (at_count_all day.history)) told;
    among = omega arith;
    past = λ keeps. omega arith;
    kept = λ keeps c left. front_now day (logged keeps) (synced keeps) c (m.only_now day.log.disk c left);
  }

  -- nothing was shown
  pub shown_none : (old new : DayValue D) (shown : List ShownLine) → IsDayAfter m old new → KeepsShown m old new shown shown
  shown_none old new shown after = record { lines = []; more = sym (append-nil shown); each = tt; after = after }

  -- a line was shown, and nothing performed
  pub shown_one : (day : DayValue D) (station : ℕ) (line : List ℕ) (shown shown_then : List ShownLine) → (m.keeps_promises → IsLogged m day) → (m.keeps_promises → IsSyncedDisk m day.log.disk)
      → MayBeTold day.history station line → shown_then ≡ shown ++ shown_now m day station line ∷ [] → KeepsShown m day day shown shown_then
  shown_one day station line shown shown_then logged synced told more = record {
    lines = shown_now m day station line ∷ [];
    more = more;
    each = (kept_now day station line logged synced told, tt);
    after = after_none day logged synced;
  }

  -- a line was shown or not, and nothing performed
  pub shown_maybe : (day : DayValue D) (station : ℕ) (line : List ℕ) (shown shown_then : List ShownLine) → (m.keeps_promises → IsLogged m day) → (m.keeps_promises → IsSyncedDisk m day.log.disk)
      → MayBeTold day.history station line → (shown_then ≡ shown) ⊎ (shown_then ≡ shown ++ shown_now m day station line ∷ []) → KeepsShown m day day shown shown_then
  shown_maybe day station line shown shown_then logged synced told either = elim either [
    | inl same ↦ record { lines = []; more = same ∙ sym (append-nil shown); each = tt; after = after_none day logged synced }
    | inr more ↦ shown_one day station line shown shown_then logged synced told more
  ]

  -- one after another
  pub shown_both : (a b c : DayValue D) (x y z : List ShownLine) → KeepsShown m a b x y → KeepsShown m b c y z → KeepsShown m a c x z
  shown_both a b c x y z first second = record {
    lines = first.lines ++ second.lines;
    more = second.more ∙ ap (λ (l : List ShownLine). l ++ second.lines) first.more ∙ append_assoc x first.lines second.lines;
    each = all_append (IsKeptLine m c) first.lines second.lines (all_by (IsKeptLine m b) (IsKeptLine m c) (kept_on b c second.after) first.lines first.each) second.each;
    after = after_both a b c first.after second.after;
  }
