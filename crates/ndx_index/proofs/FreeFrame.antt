-- The free pages stay as they are where none of them is changed.
use Rattle.std.proofs.Common.{◌≡◌, ℕ, zero, suc, ◌+◌, ◌^◌, ◌<◌, ◌≤◌, List, [], ◌∷◌, ◌++◌, length, length-append, get_or, set, refl, ap, sym, ◌∙◌, subst, inl, inr, add-one, arith}
use Rattle.std.specs.List.{AllByRecursion, insert}
use Rattle.std.proofs.lemmas.Bool.{cases_eq, ne_eqb}
use Rattle.std.proofs.lemmas.List.{get_or-set_same, get_or-set_other, get_or_append_left, length-set}
use Rattle.ndx_index.specs.declared.pages.free.FreeList.{FreeList}
use Rattle.ndx_index.specs.PageStore.{Page, page_in, no_page, with_links}
use Rattle.ndx_index.specs.IndexTree.{next_free_page, here, total, uses, uses_free, free_uses, AreFree, IsFreeList, IsTree}
use Rattle.ndx_index.specs.TreeSteps.{MakesFree}
use Rattle.ndx_index.proofs.TreeFrame.{here_itself}

pub here_zero : (p r : ℕ) → (r ≡ p → ⊥) → here p r ≡ 0
here_zero p r ne = rw (ne_eqb p r (λ e. ne (sym e))) refl

pub here_few : (p r : ℕ) → here p r ≤ 1
here_few p r = elim (cases_eq r p) [
  | inl e ↦ omega (arith, subst (λ x. here p x ≡ 1) (sym e) (here_itself p))
  | inr ne ↦ omega (arith, here_zero p r ne)
]

pub record FreeFramed (n : ℕ) (a b : List Page) (p : ℕ) : Type 0 where
  pub uses_stay : (r : ℕ) → free_uses n b p r ≡ free_uses n a p r
  pub free : AreFree n b p

pub free_framed : (n : ℕ) (a b : List Page) (p : ℕ) → AreFree n a p → length a ≤ length b → ((r : ℕ) → 0 < free_uses n a p r → r < length a → page_in b r ≡ page_in a r) → FreeFramed n a b p
free_framed zero a b p f le same = record { uses_stay = λ r. refl; free = tt }
free_framed (suc n) a b p f le same =
    let at = same p (omega (arith, here_itself p)) f.0 in
    let next = ap (λ (g : Page). next_free_page g) at in
    let rest = free_framed n a b (next_free_page (page_in a p)) f.2 le (λ r h lt. same r (omega arith) lt) in
    record {
      uses_stay = λ r. ap (λ x. here p r + free_uses n b x r) next ∙ ap (λ k. here p r + k) (rest.uses_stay r);
      free = (omega (arith, f.0), subst (λ (g : Page). 0 < length g.links) (sym at) f.1, subst (λ x. AreFree n b x) (sym next) rest.free);
    }

pub record Linked (n : ℕ) (a b : List Page) (head p : ℕ) : Type 0 where
  pub free : AreFree (n + 1) b p
  pub uses : (r : ℕ) → free_uses (n + 1) b p r ≡ here p r + free_uses n a head r

-- one more page before the free ones
pub linked : (n : ℕ) (a b : List Page) (head p : ℕ) → (page_in b p).links ≡ head ∷ [] → p < length b → length a ≤ length b → ((r : ℕ) → 0 < free_uses n a head r → r < length a → page_in b r ≡ page_in a r) → AreFree n a head → Linked n a b head p
linked n a b head p one there le same f =
    let next : next_free_page (page_in b p) ≡ head = ap (λ ls. get_or ls 0 0) one in
    let rest = free_framed n a b head f le same in
    record {
      free = rw add-one (there, subst (λ ls. 0 < length ls) (sym one) (omega arith), subst (λ x. AreFree n b x) (sym next) rest.free);
      uses = λ r. rw add-one (ap (λ x. here p r + free_uses n b x r) next ∙ ap (λ k. here p r + k) (rest.uses_stay r));
    }

-- each page of a tree is there
all_there : (d : ℕ) (a : List Page) → ((p r : ℕ) → IsTree d a p → 0 < uses d a p r → r < length a) → (cs : List ℕ) (r : ℕ) → AllByRecursion (λ c. IsTree d a c) cs → 0 < total (λ c. uses d a c r) cs → r < length a
all_there d a one [] r all h = absurd (omega arith)
all_there d a one (c ∷ cs) r all h = elim (cases_eq (uses d a c r) 0) [
  | inl e ↦ all_there d a one cs r all.1 (omega arith)
  | inr ne ↦ one c r all.0 (omega arith)
]

pub uses_there : (d : ℕ) (a : List Page) (p r : ℕ) → IsTree d a p → 0 < uses d a p r → r < length a
uses_there zero a p r t h = elim (cases_eq r p) [
  | inl e ↦ subst (λ x. x < length a) (sym e) t.0
  | inr ne ↦ absurd (omega (arith, h, here_zero p r ne))
]
uses_there (suc d) a p r t h = elim (cases_eq r p) [
  | inl e ↦ subst (λ x. x < length a) (sym e) t.0
  | inr ne ↦ all_there d a (uses_there d a) (page_in a p).links r t.3 (omega (arith, h, here_zero p r ne))
]

-- each free page is there
pub free_there : (n : ℕ) (a : List Page) (p r : ℕ) → AreFree n a p → 0 < free_uses n a p r → r < length a
free_there zero a p r f h = absurd (omega arith)
free_there (suc n) a p r f h = elim (cases_eq r p) [
  | inl e ↦ subst (λ x. x < length a) (sym e) f.0
  | inr ne ↦ free_there n a (next_free_page (page_in a p)) r f.2 (omega (arith, h, here_zero p r ne))
]

pub free_past : (n : ℕ) (a : List Page) (p r : ℕ) → AreFree n a p → length a ≤ r → free_uses n a p r ≡ 0
free_past n a p r f le = elim (cases_eq (free_uses n a p r) 0) [
  | inl e ↦ e
  | inr ne ↦ absurd (omega (arith, free_there n a p r f (omega arith)))
]

-- ---- for the goals of the code

pub taken : (n : ℕ) (a b : List Page) (p : ℕ) → AreFree (suc n) a p → ((r : ℕ) → free_uses (suc n) a p r ≤ 1) → b ≡ set a p no_page → FreeFramed n a b (next_free_page (page_in a p))
taken n a b p f apart e =
    let m : length b ≡ length a = rw e (length-set a p no_page) in
    free_framed n a b (next_free_page (page_in a p)) f.2 (omega (arith, m)) (λ r h lt. rw e (get_or-set_other a p r no_page no_page (λ same.
    omega (arith, h, apart r, subst (λ x. here x r ≡ 1) same (here_itself r)))))

-- p was emptied and got one link, and no other page changed
pub record Given (a b : List Page) (head p : ℕ) : Type 0 where
  pub one : (page_in b p).links ≡ head ∷ []
  pub others : (r : ℕ) → (r ≡ p → ⊥) → page_in b r ≡ page_in a r
  pub same_length : length b ≡ length a

pub given : (a a1 b : List Page) (head p : ℕ) → p < length a → a1 ≡ set a p no_page → b ≡ set a1 p (with_links (insert (page_in a1 p).links 0 head) (page_in a1 p)) → Given a b head p
given a a1 b head p there e1 e =
    let g = with_links (insert (page_in a1 p).links 0 head) (page_in a1 p) in
    let m1 : length a1 ≡ length a = rw e1 (length-set a p no_page) in
    let empty : page_in a1 p ≡ no_page = rw e1 (get_or-set_same a p no_page no_page there) in
    let at : page_in b p ≡ g = rw e (get_or-set_same a1 p g no_page (omega (arith, m1))) in
    record {
      one = ap (λ (h : Page). h.links) at ∙ ap (λ (h : Page). insert h.links 0 head) empty;
      others = λ r ne. ap (λ xs. page_in xs r) e ∙ get_or-set_other a1 p r g no_page ne ∙ ap (λ xs. page_in xs r) e1 ∙ get_or-set_other a p r no_page no_page ne;
      same_length = ap length e ∙ length-set a1 p g ∙ m1;
    }

pub given_linked : (n : ℕ) (a b : List Page) (head p : ℕ) → p < length a → AreFree n a head → ((r : ℕ) → here p r + free_uses n a head r ≤ 1) → Given a b head p → Linked n a b head p
given_linked n a b head p there f apart g = linked n a b head p g.one (omega (arith, g.same_length)) (omega (arith, g.same_length))
    (λ r h lt. g.others r (λ same. omega (arith, h, apart r, subst (λ x. here x r ≡ 1) same (here_itself r)))) f

-- ---- one more page

-- an empty page was put after the others
pub record Added (a b : List Page) (f : FreeList) : Type 0 where
  pub length_more : length b ≡ length a + 1
  pub list : IsFreeList b f
  pub uses_stay : (r : ℕ) → uses_free b f r ≡ uses_free a f r
  pub apart : (r : ℕ) → here (length a) r + uses_free b f r ≤ 1
  pub others : (r : ℕ) → r < length a → page_in b r ≡ page_in a r

pub added : (a b : List Page) (f : FreeList) → b ≡ a ++ no_page ∷ [] → IsFreeList a f → ((r : ℕ) → uses_free a f r ≤ 1) → Added a b f
added a b f e list apart =
    let m : length b ≡ length a + 1 = ap length e ∙ length-append a (no_page ∷ []) in
    let others : (r : ℕ) → r < length a → page_in b r ≡ page_in a r = λ r lt. ap (λ xs. page_in xs r) e ∙ get_or_append_left a (no_page ∷ []) no_page r lt in
    let framed = free_framed f.count a b f.head list (omega (arith, m)) (λ r h lt. others r lt) in
    record {
      length_more = m;
      list = framed.free;
      uses_stay = framed.uses_stay;
      apart = λ r. elim (cases_eq r (length a)) [
        | inl same ↦ omega (arith, framed.uses_stay r, free_past f.count a f.head r list (omega (arith, same)), here_few (length a) r)
        | inr ne ↦ omega (arith, framed.uses_stay r, apart r, here_zero (length a) r ne)
      ];
      others = others;
    }

pub grown : (a b e : List Page) (f g : FreeList) → Added a b f → length b < 2 ^ 32 → ((r : ℕ) → uses_free a f r ≤ 1) → g.count ≡ f.count + 1 → IsFreeList e g → ((r : ℕ) → uses_free e g r ≡ here (length a) r + uses_free b f r) → ((r : ℕ) → (r ≡ length a → ⊥) → page_in e r ≡ page_in b r) → length e ≡ length b → MakesFree a e f g
grown a b e f g add count_bounded apart count list uses others n = record {
  longer = omega (arith, n, add.length_more);
  count_bounded = λ lt. omega (arith, n, count_bounded);
  more = omega (arith, count);
  list = list;
  apart = λ r. omega (arith, uses r, add.apart r);
  same = λ r lt. omega (arith, uses r, add.uses_stay r, here_zero (length a) r (λ same. omega (arith, same)));
  frame = λ r lt none. others r (λ same. omega (arith, same)) ∙ add.others r lt;
  new_free = λ r le lt.
      let it : r ≡ length a = omega (arith, n, add.length_more) in
      omega (arith, uses r, add.apart r, subst (λ x. here x r ≡ 1) it (here_itself r));
}
