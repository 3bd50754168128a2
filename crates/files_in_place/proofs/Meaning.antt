-- What recovery makes of the folders that steps lead to.
use Rattle.std.proofs.Common.{◌≡◌, ◌≢◌, inl, inr, ⊎_elim, ◌⊎◌, ℕ, List, ◌∷◌, Bool, true, false, Option, None, Some, IsSome, cond, length, drop, refl, sym, ◌∙◌, ap, subst, arith}
use Rattle.std.proofs.lemmas.Bool.{cases_Bool, both_ways, cond-true, cond-false}
use Rattle.std.proofs.lemmas.Slice.Eq.{bytes_eq-Decides}
use Rattle.std.specs.List.{list_any}
use Rattle.std.specs.Str.{bytes_eq}
use Rattle.files_in_place.specs.Folder.{Name, Folder, is_reserved, temporary, list_name, names_in, is_listed, first_of, recovered}
use Rattle.files_in_place.specs.Disk.{ComesBy, Shrinks, SameButTwo, HasMoved, MayMove, MayRemove, IsDurable}
use Rattle.files_in_place.proofs.Runs.{IsStep, comes_by}
use Rattle.files_in_place.specs.Recovery.{IsFinished, LosesReserved, KeepsRecovery, CanRename, StillRecovers}

pub same_name : (a b : Name) → (a ≡ b) ⊎ (a ≢ b)
same_name a b = elim (cases_Bool (bytes_eq a b)) [
  | inl same ↦ inl ((bytes_eq-Decides a b).0 same)
  | inr other ↦ inr (λ same. both_ways (bytes_eq a b) other ((bytes_eq-Decides a b).1 same))
]

-- a temporary name ends in the name that it stands for
pub temporary-inj : (a b : Name) → temporary a ≡ temporary b → a ≡ b
temporary-inj a b same = ap (drop 10) same

-- it isn't that name,
pub temporary_longer : (n : Name) → temporary n ≢ n
temporary_longer n same = let longer : length (temporary n) ≡ length n = ap length same in absurd (omega arith)

-- and not the list's
pub temporary_apart : (n : Name) → temporary n ≢ list_name
temporary_apart n same = let rest : 126 ∷ n ≡ drop 9 list_name = ap (drop 9) same in absurd (cc rest)

-- a name that isn't reserved is no reserved one
pub free_other : (a b : Name) → is_reserved a ≡ false → is_reserved b ≡ true → a ≢ b
free_other a b free reserved same = both_ways (is_reserved b) (sym (ap is_reserved same) ∙ free) reserved

-- what recovery makes of a name that isn't reserved: by whether it is listed, the file of its temporary name and what it has
abbrev pub recovered_by : Bool → Option (List ℕ) → Option (List ℕ) → Option (List ℕ)
recovered_by listed lies content = cond listed (first_of lies content) content

pub recovered_by-none : (listed : Bool) (content : Option (List ℕ)) → recovered_by listed None content ≡ content
recovered_by-none true content = refl
recovered_by-none false content = refl

pub recovered_free : (folder : Folder) (n : Name) → is_reserved n ≡ false → recovered folder n ≡ recovered_by (is_listed folder n) (folder (temporary n)) (folder n)
recovered_free folder n free = cond-false (is_reserved n) None (recovered_by (is_listed folder n) (folder (temporary n)) (folder n)) free

pub recovered_reserved : (folder : Folder) (n : Name) → is_reserved n ≡ true → recovered folder n ≡ None
recovered_reserved folder n reserved = cond-true (is_reserved n) None (recovered_by (is_listed folder n) (folder (temporary n)) (folder n)) reserved

-- the same list lists the same names
pub same_list : (c d : Folder) (n : Name) → c list_name ≡ d list_name → is_listed c n ≡ is_listed d n
same_list c d n same = ap (λ (list : Option (List ℕ)). list_any (λ listed. bytes_eq listed n) (names_in list)) same

-- recovery makes the same of folders that agree on a name, on its temporary name, and on the list
pub recovered_same : (c d : Folder) (n : Name) → c list_name ≡ d list_name → c (temporary n) ≡ d (temporary n) → c n ≡ d n → recovered c n ≡ recovered d n
recovered_same c d n list lies content = elim (cases_Bool (is_reserved n)) [
  | inl reserved ↦ recovered_reserved c n reserved ∙ sym (recovered_reserved d n reserved)
  | inr free ↦
      recovered_free c n free
      ∙ ap (λ (b : Bool). recovered_by b (c (temporary n)) (c n)) (same_list c d n list)
      ∙ ap (λ (x : Option (List ℕ)). recovered_by (is_listed d n) x (c n)) lies
      ∙ ap (λ (x : Option (List ℕ)). recovered_by (is_listed d n) (d (temporary n)) x) content
      ∙ sym (recovered_free d n free)
]

pub first_there : (lies content : Option (List ℕ)) → IsSome lies → first_of lies content ≡ lies
first_there None content there = absurd (both_ways false refl there)
first_there (Some bytes) content there = refl

-- a listed file that takes its name, as far as a crash lets it: recovery makes the same
pub taken_same : (name : Name) (d c : Folder) → is_reserved name ≡ false → is_listed d name ≡ true → IsSome (d (temporary name)) → MayMove (temporary name) name d c → KeepsRecovery d c
taken_same name d c free listed there moves =
    let list : c list_name ≡ d list_name = moves.elsewhere list_name
    (λ same. temporary_apart name (sym same))
    (λ same. free_other name list_name free refl (sym same)) in
    let listed_too : is_listed c name ≡ true = same_list c d name list ∙ listed in
    let old : recovered d name ≡ d (temporary name) = recovered_free d name free ∙ ap (λ (b : Bool). recovered_by b (d (temporary name)) (d name)) listed ∙ first_there (d (temporary name)) (d name) there in
    let new : recovered c name ≡ first_of (c (temporary name)) (c name) = recovered_free c name free ∙ ap (λ (b : Bool). recovered_by b (c (temporary name)) (c name)) listed_too in
    let here : recovered c name ≡ recovered d name = elim moves.either [
      | inl still ↦ recovered_same c d name list still.1 still.0
      | inr moved ↦ elim moved.1 [
        | inl both ↦ new ∙ ap (λ (x : Option (List ℕ)). first_of x (c name)) both ∙ first_there (d (temporary name)) (c name) there ∙ sym old
        | inr gone ↦ new ∙ ap (λ (x : Option (List ℕ)). first_of x (c name)) gone ∙ moved.0 ∙ sym old
      ]
    ] in
    record {
      list = list;
      same = λ n. elim (cases_Bool (is_reserved n)) [
        | inl reserved ↦ recovered_reserved c n reserved ∙ sym (recovered_reserved d n reserved)
        | inr other_free ↦ elim (same_name n name) [
          | inl same ↦ ap (recovered c) same ∙ here ∙ ap (recovered d) (sym same)
          | inr other ↦
              recovered_same c d n list
              (moves.elsewhere (temporary n) (λ same. other (temporary-inj n name same)) (λ same. free_other name (temporary n) free refl (sym same)))
              (moves.elsewhere n (free_other n (temporary name) other_free refl) other)
        ]
      ];
      unlisted = λ n other_free unlisted. moves.elsewhere n (free_other n (temporary name) other_free refl)
          (λ same. both_ways (is_listed d n) unlisted (ap (is_listed d) same ∙ listed));
    }

-- the removal of a file of a reserved name
pub removes_reserved : (name : Name) (d c : Folder) → is_reserved name ≡ true → MayRemove name d c → LosesReserved d c
removes_reserved name d c reserved removes = record {
  same = λ n free. removes.elsewhere n (free_other n name free reserved);
  lost = λ n. elim (same_name n name) [
    | inl same ↦ ⊎_elim (λ still. inl (ap c same ∙ still ∙ ap d (sym same))) (λ gone. inr (ap c same ∙ gone)) removes.either
    | inr other ↦ inl (removes.elsewhere n other)
  ];
}

pub loses_follows : (name : Name) (old new : Folder → Type 0) → is_reserved name ≡ true → ComesBy (MayRemove name) old new → ComesBy LosesReserved old new
loses_follows name old new reserved removes = comes_by (MayRemove name) LosesReserved old new removes (λ d was c by. removes_reserved name d c reserved by)

-- where recovery has nothing else to do, losing files of reserved names changes nothing
pub lost_same : (d c : Folder) → IsFinished d → LosesReserved d c → (n : Name) → recovered c n ≡ recovered d n
lost_same d c finished loses n = elim (cases_Bool (is_reserved n)) [
  | inl reserved ↦ recovered_reserved c n reserved ∙ sym (recovered_reserved d n reserved)
  | inr free ↦ elim (loses.lost list_name) [
    | inr none ↦
        let unlisted : is_listed c n ≡ false = ap (λ (list : Option (List ℕ)). list_any (λ listed. bytes_eq listed n) (names_in list)) none in
        recovered_free c n free ∙ ap (λ (b : Bool). recovered_by b (c (temporary n)) (c n)) unlisted ∙ loses.same n free ∙ sym (finished n free)
    | inl list ↦ elim (loses.lost (temporary n)) [
      | inl lies ↦ recovered_same c d n list lies (loses.same n free)
      | inr gone ↦ recovered_free c n free ∙ ap (λ (x : Option (List ℕ)). recovered_by (is_listed c n) x (c n)) gone ∙ recovered_by-none (is_listed c n) (c n) ∙ loses.same n free ∙ sym (finished n free)
    ]
  ]
]

pub goes_on_step : IsStep KeepsRecovery
goes_on_step = record {
  still = λ d. record { list = refl; same = λ n. refl; unlisted = λ n free unlisted. refl };
  both = λ a b c first second. record {
    list = second.list ∙ first.list;
    same = λ n. second.same n ∙ first.same n;
    unlisted = λ n free unlisted. second.unlisted n free (same_list b a n first.list ∙ unlisted) ∙ first.unlisted n free unlisted;
  };
}

pub loses_step : IsStep LosesReserved
loses_step = record {
  still = λ d. record { same = λ n free. refl; lost = λ n. inl refl };
  both = λ a b c first second. record {
    same = λ n free. second.same n free ∙ first.same n free;
    lost = λ n. ⊎_elim (λ still. ⊎_elim (λ was. inl (still ∙ was)) (λ gone. inr (still ∙ gone)) (first.lost n)) (λ gone. inr gone) (second.lost n);
  };
}

-- a step of either kind changes nothing of what recovery makes
pub still_step : IsStep StillRecovers
still_step = record {
  still = λ d. record { recovers = λ n. refl; unlisted = λ n free unlisted. refl; no_more = λ n unlisted. unlisted };
  both = λ a b c first second. record {
    recovers = λ n. second.recovers n ∙ first.recovers n;
    unlisted = λ n free unlisted. second.unlisted n free (first.no_more n unlisted) ∙ first.unlisted n free unlisted;
    no_more = λ n unlisted. second.no_more n (first.no_more n unlisted);
  };
}

pub keeps_still : (d c : Folder) → KeepsRecovery d c → StillRecovers d c
keeps_still d c keeps = record { recovers = keeps.same; unlisted = keeps.unlisted; no_more = λ n unlisted. same_list c d n keeps.list ∙ unlisted }

-- without a list nothing is listed
none_listed : (c : Folder) (n : Name) → c list_name ≡ None → is_listed c n ≡ false
none_listed c n none = ap (λ (list : Option (List ℕ)). list_any (λ listed. bytes_eq listed n) (names_in list)) none

pub lost_still : (d c : Folder) → IsFinished d → LosesReserved d c → StillRecovers d c
lost_still d c finished loses = record {
  recovers = lost_same d c finished loses;
  unlisted = λ n free unlisted. loses.same n free;
  no_more = λ n unlisted. ⊎_elim (λ list. same_list c d n list ∙ unlisted) (λ none. none_listed c n none) (loses.lost list_name);
}

pub can_shrinks : (folder : Folder) (old new : Folder → Type 0) → CanRename folder old → Shrinks old new → CanRename folder new
can_shrinks folder old new can shrinks = record {
  list = λ c now. can.list c (shrinks c now);
  files = λ n listed. ⊎_elim (λ none. inl none) (λ always. inr (λ c now. always c (shrinks c now))) (can.files n listed);
}

module _ (name : Name) (folder : Folder) (outcomes : Folder → Type 0) (can : CanRename folder outcomes) (free : is_reserved name ≡ false) (listed : is_listed folder name ≡ true) (there : IsSome (folder (temporary name))) where
  -- the file has its temporary name in each outcome
  lies_there : (d : Folder) → outcomes d → d (temporary name) ≡ folder (temporary name)
  lies_there d old = elim (can.files name listed) [
    | inl none ↦ absurd (both_ways false refl (let P : Option (List ℕ) → Type 0 = λ o. IsSome o in subst P none there))
    | inr always ↦ always d old
  ]

  moves_on : (d : Folder) → outcomes d → (c : Folder) → MayMove (temporary name) name d c → KeepsRecovery d c
  moves_on d old c moves =
      let P : Option (List ℕ) → Type 0 = λ o. IsSome o in
      taken_same name d c free (same_list d folder name (can.list d old) ∙ listed) (subst P (sym (lies_there d old)) there) moves

  pub finish_kept : (lies : Name) → lies ≡ temporary name → IsDurable lies folder outcomes
  finish_kept lies is = let P : Name → Type 0 = λ l. IsDurable l folder outcomes in subst P (sym is) (record { there = there; always = lies_there })

  pub finish_follows : (lies : Name) (new : Folder → Type 0) → lies ≡ temporary name → ComesBy (MayMove lies name) outcomes new → ComesBy KeepsRecovery outcomes new
  finish_follows lies new is follows =
      let P : Name → Type 0 = λ l. ComesBy (MayMove l name) outcomes new in
      comes_by (MayMove (temporary name) name) KeepsRecovery outcomes new (subst P is follows) moves_on

  done_moves : (lies : Name) (seen : Folder) → lies ≡ temporary name → HasMoved lies name folder seen → SameButTwo lies name folder seen → MayMove (temporary name) name folder seen
  done_moves lies seen is moved others =
      let P : Name → Type 0 = λ l. MayMove l name folder seen in
      subst P is (record { either = inr (moved.there, inr moved.gone); elsewhere = others })

  pub finish_seen : (lies : Name) (seen : Folder) → lies ≡ temporary name → HasMoved lies name folder seen → SameButTwo lies name folder seen → KeepsRecovery folder seen
  finish_seen lies seen is moved others = taken_same name folder seen free listed there (done_moves lies seen is moved others)

  pub finish_can : (lies : Name) (seen : Folder) (new : Folder → Type 0) → lies ≡ temporary name → HasMoved lies name folder seen → SameButTwo lies name folder seen → ComesBy (MayMove lies name) outcomes new → CanRename seen new
  finish_can lies seen new is moved others follows =
      let P : Name → Type 0 = λ l. ComesBy (MayMove l name) outcomes new in
      let moves = done_moves lies seen is moved others in
      record {
        list = λ c now.
            let from = subst P is follows c now in
            let list : c list_name ≡ from.0 list_name = (moves_on from.0 from.1 c from.2).list in
            list ∙ can.list from.0 from.1 ∙ sym (finish_seen lies seen is moved others).list;
        files = λ n still_listed. elim (same_name n name) [
          | inl same ↦ inl (ap (λ (m : Name). seen (temporary m)) same ∙ ap seen (sym is) ∙ moved.gone)
          | inr other ↦
              let apart : temporary n ≢ temporary name = λ same. other (temporary-inj n name same) in
              let not_it : temporary n ≢ name = λ same. free_other name (temporary n) free refl (sym same) in
              ⊎_elim
              (λ none. inl (moves.elsewhere (temporary n) apart not_it ∙ none))
              (λ always. inr (λ c now.
              let from = subst P is follows c now in
              let moved_to : c (temporary n) ≡ from.0 (temporary n) = from.2.elsewhere (temporary n) apart not_it in
              moved_to ∙ always from.0 from.1 ∙ sym (moves.elsewhere (temporary n) apart not_it)))
              (can.files n (sym (same_list seen folder n (finish_seen lies seen is moved others).list) ∙ still_listed))
        ];
      }
