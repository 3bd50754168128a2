-- What a set's files hold while they are written, and once they are in place.
use Rattle.std.proofs.Common.{◌≡◌, ◌≢◌, ◌++◌, inl, inr, List, [], ◌∷◌, true, false, Bool, Option, None, Some, IsSome, option_map, ℕ, refl, sym, ◌∙◌, ap, subst, cond}
use Rattle.std.proofs.lemmas.Bool.{cases_Bool, both_ways}
use Rattle.std.proofs.lemmas.Slice.Eq.{bytes_eq-Decides}
use Rattle.std.specs.Str.{bytes_eq}
use Rattle.files_in_place.specs.Folder.{Name, Folder, is_reserved, temporary, first_of}
use Rattle.files_in_place.specs.Staged.{is_staged, with_staged}
use Rattle.files_in_place.specs.Written.{Call, Begins, Writes, begun_last, is_called, with_more, written, with_written, Writing, HasBegun, HasWritten, LeadsTo}
use Rattle.files_in_place.proofs.Meaning.{free_other, temporary-inj, same_name, first_there}
use Rattle.files_in_place.proofs.Sets.{more_staged, unstaged_before, unstaged_other}
use Rattle.files_in_place.proofs.Uncommitted.{some_inj}

-- The files of the set hold what was written, and each name that isn't reserved has what it had.
record HoldsWritten (calls : List Call) (old : Folder) (set : Writing) : Type 0 where
  pub staged : (n : Name) → is_staged set.names n ≡ true → set.folder (temporary n) ≡ written calls n
  pub there : (n : Name) → is_staged set.names n ≡ true → IsSome (written calls n)
  pub none : (n : Name) → is_staged set.names n ≡ false → written calls n ≡ None
  pub free : (n : Name) → is_reserved n ≡ false → set.folder n ≡ old n
  pub current : set.current ≡ option_map temporary (begun_last calls)

same_bytes : (name n : Name) → name ≡ n → bytes_eq name n ≡ true
same_bytes name n same = (bytes_eq-Decides name n).1 same

other_bytes : (name n : Name) → name ≢ n → bytes_eq name n ≡ false
other_bytes name n other = elim (cases_Bool (bytes_eq name n)) [
  | inl same ↦ absurd (other ((bytes_eq-Decides name n).0 same))
  | inr apart ↦ apart
]

begun_here : (before : List Call) (name n : Name) → name ≡ n → written (Begins name ∷ before) n ≡ Some []
begun_here before name n same = ap (λ (b : Bool). cond b (Some []) (written before n)) (same_bytes name n same)

begun_elsewhere : (before : List Call) (name n : Name) → name ≢ n → written (Begins name ∷ before) n ≡ written before n
begun_elsewhere before name n other = ap (λ (b : Bool). cond b (Some []) (written before n)) (other_bytes name n other)

was_staged : (name : Name) (was now : Writing) (n : Name) → HasBegun name was now → name ≢ n → is_staged now.names n ≡ true → is_staged was.names n ≡ true
was_staged name was now n begun other is = elim (more_staged was.names name n (sym (ap (λ (l : List Name). is_staged l n) begun.begun) ∙ is)) [
  | inl staged ↦ staged
  | inr same ↦ absurd (other same)
]

holds_begun : (before : List Call) (old : Folder) (name : Name) (was now : Writing) → HoldsWritten before old was → HasBegun name was now → HoldsWritten (Begins name ∷ before) old now
holds_begun before old name was now holds begun =
    let P : Option (List ℕ) → Type 0 = λ o. IsSome o in
    record {
      staged = λ n is. elim (same_name name n) [
        | inl same ↦ ap (λ (m : Name). now.folder (temporary m)) (sym same) ∙ begun.empty ∙ sym (begun_here before name n same)
        | inr other ↦
            begun.others (temporary n) (λ met. other (sym (temporary-inj n name met)))
            ∙ holds.staged n (was_staged name was now n begun other is) ∙ sym (begun_elsewhere before name n other)
      ];
      there = λ n is. elim (same_name name n) [
        | inl same ↦ subst P (sym (begun_here before name n same)) refl
        | inr other ↦ subst P (sym (begun_elsewhere before name n other)) (holds.there n (was_staged name was now n begun other is))
      ];
      none = λ n is.
          let unstaged : is_staged (was.names ++ name ∷ []) n ≡ false = sym (ap (λ (l : List Name). is_staged l n) begun.begun) ∙ is in
          begun_elsewhere before name n (λ same. unstaged_other was.names name n unstaged (sym same)) ∙ holds.none n (unstaged_before was.names name n unstaged);
      free = λ n free. begun.others n (free_other n (temporary name) free refl) ∙ holds.free n free;
      current = begun.current;
    }

more_there : (is_last : Bool) (bytes : List ℕ) (content : Option (List ℕ)) → IsSome content → IsSome (with_more is_last bytes content)
more_there false bytes content there = there
more_there true bytes None there = absurd (both_ways false refl there)
more_there true bytes (Some content) there = refl

more_none : (is_last : Bool) (bytes : List ℕ) (content : Option (List ℕ)) → content ≡ None → with_more is_last bytes content ≡ None
more_none is_last bytes content none = ap (with_more is_last bytes) none ∙ still is_last bytes
  where
    still : (is_last : Bool) (bytes : List ℕ) → with_more is_last bytes None ≡ None
    still false bytes = refl
    still true bytes = refl

none_some : (name : Name) (current : Option Name) → current ≡ None → current ≢ Some name
none_some name current none some = cc

-- a write at the temporary name of n, by which file was begun last
written_at : (last : Option Name) (bytes : List ℕ) (was now : Writing) (n : Name) → was.current ≡ option_map temporary last → HasWritten bytes was now
    → now.folder (temporary n) ≡ with_more (is_called last n) bytes (was.folder (temporary n))
written_at None bytes was now n current wrote = wrote.others (temporary n) (none_some (temporary n) was.current current)
written_at (Some name) bytes was now n current wrote = elim (same_name name n) [
  | inl same ↦
      wrote.written (temporary n) (current ∙ ap (λ (m : Name). Some (temporary m)) same)
      ∙ sym (ap (λ (b : Bool). with_more b bytes (was.folder (temporary n))) (same_bytes name n same))
  | inr other ↦
      wrote.others (temporary n) (λ met. other (temporary-inj name n (some_inj (temporary name) (temporary n) (sym current ∙ met))))
      ∙ sym (ap (λ (b : Bool). with_more b bytes (was.folder (temporary n))) (other_bytes name n other))
]

-- a write at a name that isn't reserved
written_free : (last : Option Name) (bytes : List ℕ) (was now : Writing) (n : Name) → was.current ≡ option_map temporary last → HasWritten bytes was now → is_reserved n ≡ false → now.folder n ≡ was.folder n
written_free None bytes was now n current wrote free = wrote.others n (none_some n was.current current)
written_free (Some name) bytes was now n current wrote free = wrote.others n (λ met. free_other n (temporary name) free refl (sym (some_inj (temporary name) n (sym current ∙ met))))

holds_more : (before : List Call) (old : Folder) (bytes : List ℕ) (was now : Writing) → HoldsWritten before old was → HasWritten bytes was now → HoldsWritten (Writes bytes ∷ before) old now
holds_more before old bytes was now holds wrote =
    record {
      staged = λ n is.
          let staged : is_staged was.names n ≡ true = sym (ap (λ (l : List Name). is_staged l n) wrote.names) ∙ is in
          written_at (begun_last before) bytes was now n holds.current wrote ∙ ap (with_more (is_called (begun_last before) n) bytes) (holds.staged n staged);
      there = λ n is.
          let staged : is_staged was.names n ≡ true = sym (ap (λ (l : List Name). is_staged l n) wrote.names) ∙ is in
          more_there (is_called (begun_last before) n) bytes (written before n) (holds.there n staged);
      none = λ n is.
          let unstaged : is_staged was.names n ≡ false = sym (ap (λ (l : List Name). is_staged l n) wrote.names) ∙ is in
          more_none (is_called (begun_last before) n) bytes (written before n) (holds.none n unstaged);
      free = λ n free. written_free (begun_last before) bytes was now n holds.current wrote free ∙ holds.free n free;
      current = wrote.current ∙ holds.current;
    }

holds_written : (calls : List Call) (old : Folder) (set : Writing) → LeadsTo calls old set → HoldsWritten calls old set
holds_written [] old set new = record {
  staged = λ n is. absurd (both_ways false refl (sym (ap (λ (l : List Name). is_staged l n) new.names) ∙ is));
  there = λ n is. absurd (both_ways false refl (sym (ap (λ (l : List Name). is_staged l n) new.names) ∙ is));
  none = λ n is. refl;
  free = λ n free. new.same n;
  current = new.current;
}
holds_written (Begins name ∷ before) old set leads = holds_begun before old name leads.0 set (holds_written before old leads.0 leads.1) leads.2
holds_written (Writes bytes ∷ before) old set leads = holds_more before old bytes leads.0 set (holds_written before old leads.0 leads.1) leads.2

-- with_staged and with_written, by what they test
put_written : (is_res is_among : Bool) (lies here new old : Option (List ℕ)) → (is_res ≡ false → is_among ≡ true → lies ≡ new) → (is_among ≡ true → IsSome new) → (is_among ≡ false → new ≡ None) → (is_res ≡ false → here ≡ old)
    → cond is_res None (cond is_among lies here) ≡ cond is_res None (first_of new old)
put_written true is_among lies here new old staged there none free = refl
put_written false true lies here new old staged there none free = staged refl refl ∙ sym (first_there new old (there refl))
put_written false false lies here new old staged there none free = free refl ∙ sym (ap (λ (o : Option (List ℕ)). first_of o old) (none refl))

pub put_holds_written : (calls : List Call) (old last : Folder) (set : Writing) → LeadsTo calls old set → ((n : Name) → last n ≡ with_staged set.names set.folder n) → (n : Name) → last n ≡ with_written calls old n
put_holds_written calls old last set leads put n =
    let holds = holds_written calls old set leads in
    put n ∙ put_written (is_reserved n) (is_staged set.names n) (set.folder (temporary n)) (set.folder n) (written calls n) (old n) (λ free is. holds.staged n is) (holds.there n) (holds.none n) (holds.free n)
