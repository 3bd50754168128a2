-- What is sent of typed lines.
use Rattle.std.proofs.Common.{◌≡◌, ◌∙◌, ℕ, List, [], ◌∷◌, ◌++◌, refl, sym, ap, subst, append_assoc}
use Rattle.std.specs.Prelude.{Option, Some, None}
use Rattle.std.proofs.lemmas.List.{append-nil, map-append}
use Rattle.std.specs.List.{AllByRecursion}
use Rattle.live_day.specs.Groups.{IsNoQuit}
use Rattle.live_day.specs.Typing.{TypesFirst, TypesKnown, TypesLines, TypesNext}
use Rattle.live_day.specs.declared.keyboard.Typed.{Typed}
use Rattle.live_day.specs.declared.keyboard.TypingFault.{TypingFault}
use Rattle.live_stations.specs.declared.heard.Heard.{Heard}
use Rattle.live_stations.specs.declared.typist.LinesEnd.{LinesEnd}
use Rattle.live_stations.specs.declared.typist.LinesEnd.TheVariants.{Ended, Unread}
use Rattle.live_stations.specs.declared.typist.Typist.{Typist}
use Rattle.live_stations.specs.Hearings.{over_mark}
use Rattle.live_stations.specs.Typists.{line_sent, lines_sent, typed_at, AreTyped, HasSent, IsLeftOver, IsRest, IsSentBy}
use Rattle.rtrb.specs.Ring.{sent}

-- Lines that were typed of a text and sent, one after another, and what is left of it.
pub record HaveGone (text left : Option (List ℕ)) (typed typed_then : List Typed) (sent sent_then : List Heard) : Type 0 where
  pub lines : List Typed
  pub read : typed_then ≡ typed ++ lines
  pub own : AllByRecursion IsNoQuit lines
  pub sent_is : sent_then ≡ sent ++ lines_sent lines
  pub are : TypesKnown text lines left

all_snoc : {A : Type 0} (P : A → Type 0) (xs : List A) (x : A) → AllByRecursion P xs → P x → AllByRecursion P (xs ++ x ∷ [])
all_snoc P [] x all p = (p, tt)
all_snoc P (y ∷ xs) x all p = (all.0, all_snoc P xs x all.1 p)

known_none : (text : Option (List ℕ)) → TypesKnown text [] text
known_none None = tt
known_none (Some t) = refl

lines_more : (lines : List Typed) (line : Typed) (text mid rest : List ℕ) → TypesLines text lines mid → TypesFirst mid line rest → TypesLines text (lines ++ line ∷ []) rest
lines_more [] line text mid rest are next = (rest, subst (λ (t : List ℕ). TypesFirst t line rest) are next, refl)
lines_more (l ∷ lines) line text mid rest are next = (are.0, are.1, lines_more lines line are.0 mid rest are.2 next)

known_more : (lines : List Typed) (line : Typed) (a b c : Option (List ℕ)) → TypesKnown a lines b → TypesNext b (Some line) c → TypesKnown a (lines ++ line ∷ []) c
known_more lines line None b c are next = tt
known_more lines line (Some x) None c are next = absurd are
known_more lines line (Some x) (Some y) None are next = absurd next
known_more lines line (Some x) (Some y) (Some z) are next = lines_more lines line x y z are next

pub none_gone : (text : Option (List ℕ)) (typed : List Typed) (sent : List Heard) → HaveGone text text typed typed sent sent
none_gone text typed sent = record { lines = []; read = sym (append-nil typed); own = tt; sent_is = sym (append-nil sent); are = known_none text }

-- one line more
pub one_gone : (text left left_next : Option (List ℕ)) (typed mid next : List Typed) (sent sent_mid sent_next : List Heard) (line : Typed) → HaveGone text left typed mid sent sent_mid
    → TypesNext left (Some line) left_next → next ≡ mid ++ line ∷ [] → IsNoQuit line → sent_next ≡ sent_mid ++ line_sent line ∷ [] → HaveGone text left_next typed next sent sent_next
one_gone text left left_next typed mid next sent sent_mid sent_next line has first read unlike more = record {
  lines = has.lines ++ line ∷ [];
  read = read ∙ ap (λ (l : List Typed). l ++ line ∷ []) has.read ∙ append_assoc typed has.lines (line ∷ []);
  own = all_snoc IsNoQuit has.lines line has.own unlike;
  sent_is =
      more ∙ ap (λ (l : List Heard). l ++ line_sent line ∷ []) has.sent_is ∙ append_assoc sent (lines_sent has.lines) (line_sent line ∷ [])
      ∙ ap (λ (l : List Heard). sent ++ l) (sym (map-append line_sent has.lines (line ∷ [])));
  are = known_more has.lines line text left left_next has.are first;
}

-- the lines that were typed are the first of a text, whatever is left of it, where it has not ended
typed_before : (text left : Option (List ℕ)) (lines : List Typed) (why : LinesEnd) → ((rest : List ℕ) → IsLeftOver why rest) → TypesKnown text lines left → AreTyped text lines why
typed_before None left lines why unended are = tt
typed_before (Some t) None lines why unended are = absurd are
typed_before (Some t) (Some rest) lines why unended are = (rest, are, unended rest)

typed_to_end : (text left left_next : Option (List ℕ)) (lines : List Typed) → TypesKnown text lines left → TypesNext left None left_next → AreTyped text lines Ended
typed_to_end None left left_next lines are next = tt
typed_to_end (Some t) None left_next lines are next = absurd are
typed_to_end (Some t) (Some rest) None lines are next = absurd next
typed_to_end (Some t) (Some rest) (Some none) lines are next = (rest, are, next.0)

-- the end of them, after a last line that was not sent
pub gone_last : (text left left_next : Option (List ℕ)) (typed mid next : List Typed) (sent sent_mid sent_next : List Heard) (why : LinesEnd) (line : Typed)
    → HaveGone text left typed mid sent sent_mid → TypesNext left (Some line) left_next → next ≡ mid ++ line ∷ [] → sent_next ≡ sent_mid → ((rest : List ℕ) → IsLeftOver why rest)
    → IsRest why (line ∷ []) → HasSent text typed next sent sent_next why
gone_last text left left_next typed mid next sent sent_mid sent_next why line has first read same unended end = record {
  lines = has.lines;
  rest = line ∷ [];
  read = read ∙ ap (λ (l : List Typed). l ++ line ∷ []) has.read ∙ append_assoc typed has.lines (line ∷ []);
  own = has.own;
  sent_is = same ∙ has.sent_is;
  end = end;
  are = typed_before text left_next (has.lines ++ line ∷ []) why unended (known_more has.lines line text left left_next has.are first);
}

without_rest : (xs : List Typed) → xs ≡ xs ++ []
without_rest xs = sym (append-nil xs)

-- the end of them, where none was typed any more
gone_end : (text : Option (List ℕ)) (typed mid next : List Typed) (sent sent_mid sent_next : List Heard) (why : LinesEnd) (lines : List Typed) → mid ≡ typed ++ lines → AllByRecursion IsNoQuit lines
    → sent_mid ≡ sent ++ lines_sent lines → next ≡ mid → sent_next ≡ sent_mid → IsRest why [] → AreTyped text lines why → HasSent text typed next sent sent_next why
gone_end text typed mid next sent sent_mid sent_next why lines read own sent_is same_typed same end are = record {
  lines = lines;
  rest = [];
  read = same_typed ∙ read ∙ ap (λ (l : List Typed). typed ++ l) (without_rest lines);
  own = own;
  sent_is = same ∙ sent_is;
  end = end;
  are = subst (λ (l : List Typed). AreTyped text l why) (without_rest lines) are;
}

-- since a line can't be read
pub gone_unread : (text left : Option (List ℕ)) (typed mid next : List Typed) (sent sent_mid : List Heard) (fault : TypingFault) → HaveGone text left typed mid sent sent_mid → next ≡ mid
    → HasSent text typed next sent sent_mid (Unread fault)
gone_unread text left typed mid next sent sent_mid fault has same =
    gone_end text typed mid next sent sent_mid sent_mid (Unread fault) has.lines has.read has.own has.sent_is same refl refl (typed_before text left has.lines (Unread fault) (λ rest. tt) has.are)

-- since the input has ended
pub gone_to_end : (text left left_next : Option (List ℕ)) (typed mid next : List Typed) (sent sent_mid : List Heard) → HaveGone text left typed mid sent sent_mid → TypesNext left None left_next
    → next ≡ mid → HasSent text typed next sent sent_mid Ended
gone_to_end text left left_next typed mid next sent sent_mid has none same =
    gone_end text typed mid next sent sent_mid sent_mid Ended has.lines has.read has.own has.sent_is same refl refl (typed_to_end text left left_next has.lines has.are none)

none_typed : (text : Option (List ℕ)) (why : LinesEnd) → ((rest : List ℕ) → IsLeftOver why rest) → AreTyped text [] why
none_typed text why unended = typed_before text text [] why unended (known_none text)

-- nothing was typed, since no keyboard was opened
pub none_sent : (text : Option (List ℕ)) (sent : List Heard) (why : LinesEnd) → sent ≡ [] → IsRest why [] → ((rest : List ℕ) → IsLeftOver why rest) → HasSent text [] [] [] sent why
none_sent text sent why none end unended = record { lines = []; rest = []; read = refl; own = tt; sent_is = none; end = end; are = none_typed text why unended }

-- nothing had been typed or sent before
pub sent_there : (text first : Option (List ℕ)) (typed typed_then : List Typed) (sent sent_then : List Heard) (why : LinesEnd) → first ≡ text → typed ≡ [] → sent ≡ []
    → HasSent first typed typed_then sent sent_then why → HasSent text [] typed_then [] sent_then why
sent_there text first typed typed_then sent sent_then why same untyped unsent has = record {
  lines = has.lines;
  rest = has.rest;
  read = has.read ∙ ap (λ (l : List Typed). l ++ (has.lines ++ has.rest)) untyped;
  own = has.own;
  sent_is = has.sent_is ∙ ap (λ (l : List Heard). l ++ lines_sent has.lines) unsent;
  end = has.end;
  are = subst (λ (t : Option (List ℕ)). AreTyped t (has.lines ++ has.rest) why) same has.are;
}

-- and then that no more come
pub sent_by : {K : Type 0} (typed : K → List Typed) (text : Option (List ℕ)) (e : Typist K) (sent_before : List Heard) → HasSent text [] (typed_at typed e.keyboard) [] sent_before e.end
    → sent e.lines ≡ sent_before ++ over_mark e.is_told → IsSentBy typed text e
sent_by typed text e sent_before has more = record {
  lines = has.lines;
  rest = has.rest;
  read = has.read;
  own = has.own;
  sent_is = more ∙ ap (λ (l : List Heard). l ++ over_mark e.is_told) has.sent_is;
  end = has.end;
  are = subst (λ (ts : List Typed). AreTyped text ts e.end) (sym has.read) has.are;
}
