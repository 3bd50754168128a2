-- Lists of seats that have each station.
use Rattle.std.proofs.Common.{◌≡◌, ◌≢◌, ◌⊎◌, ◌↔◌, ℕ, zero, suc, ◌+◌, ◌<◌, ◌≤◌, List, [], ◌∷◌, length, refl, ap, sym, ◌∙◌, subst, inl, inr, ⊎_elim, arith, zero-le, le_of_eq}
use Rattle.std.specs.Prelude.{Any, All, Bool, cond, ◌==◌, count_by, Result, Err, IsErrOf, slice_index_or}
use Rattle.std.specs.List.{sum_by}
use Rattle.std.proofs.lemmas.Bool.{cases_lt, cases_eq, eq-eqb, ne_eqb}
use Rattle.std.proofs.lemmas.List.Elements.{All-nil, All-cons, All-head, All-tail, All-weaker}
use Rattle.std.proofs.lemmas.List.Sums.{sum_by-cons}
use Rattle.catalogue_core.specs.declared.status.StatusRow.{StatusRow}
use Rattle.shared_catalogue.specs.declared.board.Known.{Known}
use Rattle.shared_catalogue.specs.Seats.{Seated, HasSeat, AreSeated, IsLowestMissing, AgreesWith, IsWithin}
use Rattle.shared_catalogue.specs.StatusRows.{calls_of}
use Rattle.shared_catalogue.specs.declared.settle.SettleFault.{SettleFault}
use Rattle.shared_catalogue.specs.declared.settle.SettleFault.TheVariants.{SeatMissing}

module _ {X : Type 0} (P : X → Type 0) where
  pub any_here : (x : X) (xs : List X) → P x → Any P (x ∷ xs)
  any_here x xs p = (0, x, omega arith, refl, p)

  pub any_there : (x : X) (xs : List X) → Any P xs → Any P (x ∷ xs)
  any_there x xs h = (suc h.0, h.1, (let l = h.2 in omega arith), h.3, h.4)

  split : (x : X) (xs : List X) (k : ℕ) (y : X) → k < length (x ∷ xs) → slice_index_or (x ∷ xs) k y ≡ y → P y → P x ⊎ Any P xs
  split x xs zero y l e p = inl (subst P (sym e) p)
  split x xs (suc k) y l e p = inr (k, y, omega arith, e, p)

  pub any_split : (x : X) (xs : List X) → Any P (x ∷ xs) → P x ⊎ Any P xs
  any_split x xs h = split x xs h.0 h.1 h.2 h.3 h.4

  pub any_none : Any P [] → ⊥
  any_none h = let l = h.2 in omega arith

-- the list without one seat of the station
pub record Without (zs : List Seated) (s : ℕ) : Type 0 where
  pub rest : List Seated
  pub shorter : length zs ≡ suc (length rest)
  pub others : (t : ℕ) → t ≢ s → HasSeat zs t → HasSeat rest t
  pub sums : (f : ℕ → ℕ) → sum_by (λ z. f z.station) zs ≡ f s + sum_by (λ z. f z.station) rest

pub take_out : (zs : List Seated) (s : ℕ) → HasSeat zs s → Without zs s
take_out [] s h = absurd (any_none (λ z. z.station ≡ s) h)
take_out (z ∷ zs) s h =
    ⊎_elim
    (λ (here : z.station ≡ s). let w : Without (z ∷ zs) s = record {
      rest = zs;
      shorter = refl;
      others = λ t ne had. ⊎_elim (λ (e : z.station ≡ t). absurd (ne (sym e ∙ here))) (λ r. r) (any_split (λ (y : Seated). y.station ≡ t) z zs had);
      sums = λ f. sum_by-cons (λ (y : Seated). f y.station) z zs ∙ ap (λ n. f n + sum_by (λ (y : Seated). f y.station) zs) here;
    } in w)
    (λ (there : HasSeat zs s). let o = take_out zs s there in
    let w : Without (z ∷ zs) s = record {
      rest = z ∷ o.rest;
      shorter = ap suc o.shorter;
      others = λ t ne had. ⊎_elim (λ (e : z.station ≡ t). any_here (λ (y : Seated). y.station ≡ t) z o.rest e) (λ r. any_there (λ (y : Seated). y.station ≡ t) z o.rest (o.others t ne r)) (any_split (λ (y : Seated). y.station ≡ t) z zs had);
      sums = λ f. let r = o.sums f in omega (arith, sum_by-cons (λ (y : Seated). f y.station) z zs, sum_by-cons (λ (y : Seated). f y.station) z o.rest);
    } in w)
    (any_split (λ (y : Seated). y.station ≡ s) z zs h)

-- f 1 + .. + f n
abbrev pub up_to : (ℕ → ℕ) → ℕ → ℕ
up_to f zero = 0
up_to f (suc n) = up_to f n + f (suc n)

pub covered : (n : ℕ) (zs : List Seated) → AreSeated zs n → (n ≤ length zs) × (length zs ≡ n → (f : ℕ → ℕ) → sum_by (λ z. f z.station) zs ≡ up_to f n)
covered zero zs all = (zero-le, none zs)
  where
    none : (zs : List Seated) → length zs ≡ zero → (f : ℕ → ℕ) → sum_by (λ z. f z.station) zs ≡ up_to f zero
    none [] e f = refl
    none (z ∷ zs) e f = absurd (omega arith)
covered (suc n) zs all =
    let o = take_out zs (suc n) (all (suc n) (omega arith) (omega arith)) in
    let below = covered n o.rest (λ s low high. o.others s (λ (e : s ≡ suc n). omega arith) (all s low (omega arith))) in
    (let a = o.shorter in let b = below.0 in omega arith, λ e f. let a = o.shorter in let b = below.1 (omega arith) f in let d = o.sums f in omega arith)

pub enough : (n : ℕ) (zs : List Seated) → AreSeated zs n → n ≤ length zs
enough n zs all = (covered n zs all).0

lowest_once : (zs : List Seated) (n a s : ℕ) → IsLowestMissing zs n a → IsLowestMissing zs n s → a ≡ s
lowest_once zs n a s x y =
    ⊎_elim
    (λ (l : a < s). absurd (x.2 (y.3 a x.0 l)))
    (λ (m : s ≤ a). ⊎_elim (λ (l : s < a). absurd (y.2 (x.3 s y.0 l))) (λ (k : a ≤ s). omega arith) (cases_lt s a))
    (cases_lt a s)

-- the fault names the lowest station without a seat, and no other
pub missing_here : {T : Type 0} (zs : List Seated) (n a : ℕ) → IsLowestMissing zs n a → (s : ℕ) → IsErrOf {T = T} (Err (SeatMissing a)) (SeatMissing s) ↔ IsLowestMissing zs n s
missing_here zs n a is s =
    ((λ e. let same : a ≡ s = cc in subst (IsLowestMissing zs n) same is), (λ other. ap (λ k. Err (SeatMissing k)) (lowest_once zs n a s is other)))

pub missing_nowhere : {T : Type 0} (r : Result T SettleFault) (zs : List Seated) (n : ℕ) → ((s : ℕ) → r ≡ Err (SeatMissing s) → ⊥) → AreSeated zs n → (s : ℕ) → IsErrOf r (SeatMissing s) ↔ IsLowestMissing zs n s
missing_nowhere r zs n other all s = ((λ e. absurd (other s e)), (λ is. absurd (is.2 (all s is.0 is.1))))

-- ---- calls

-- how many of the stations 1 to n a row names is 1 at most
once : (m n : ℕ) → (up_to (λ s. cond (m == s) 1 0) n ≤ 1) × (n < m → up_to (λ s. cond (m == s) 1 0) n ≡ 0)
once m zero = (zero-le, λ h. refl)
once m (suc n) =
    let below = once m n in
    ⊎_elim
    (λ (e : m ≡ suc n). let here : ◌≡◌ {A = ℕ} (cond (m == suc n) 1 0) 1 = ap (λ (b : Bool). cond b 1 0) (eq-eqb m (suc n) e) in
    let none = below.1 (omega arith) in (omega arith, λ h. absurd (omega arith)))
    (λ (ne : m ≢ suc n). let here : ◌≡◌ {A = ℕ} (cond (m == suc n) 1 0) 0 = ap (λ (b : Bool). cond b 1 0) (ne_eqb m (suc n) ne) in
    let low = below.0 in (omega arith, λ h. let none = below.1 (omega arith) in omega arith))
    (cases_eq m (suc n))

up_to-add : (f g : ℕ → ℕ) (n : ℕ) → up_to (λ s. f s + g s) n ≡ up_to f n + up_to g n
up_to-add f g zero = refl
up_to-add f g (suc n) = let h = up_to-add f g n in omega arith

up_to-same : (f g : ℕ → ℕ) (n : ℕ) → ((s : ℕ) → f s ≡ g s) → up_to f n ≡ up_to g n
up_to-same f g zero e = refl
up_to-same f g (suc n) e = let h = up_to-same f g n e in let k = e (suc n) in omega arith

up_to-none : (n : ℕ) → up_to (λ s. 0) n ≡ 0
up_to-none zero = refl
up_to-none (suc n) = let h = up_to-none n in omega arith

-- the calls of the stations 1 to n are no more than the rows
named_most : (rows : List StatusRow) (n : ℕ) → up_to (λ s. count_by (λ (row : StatusRow). row.last_station == s) rows) n ≤ length rows
named_most [] n = le_of_eq (up_to-none n)
named_most (r ∷ rs) n =
    let one = (once (r.last_station) n).0 in
    let others = named_most rs n in
    let parts = up_to-same (λ s. count_by (λ (row : StatusRow). row.last_station == s) (r ∷ rs)) (λ s. cond (r.last_station == s) 1 0 + count_by (λ (row : StatusRow). row.last_station == s) rs) n (λ s. sum_by-cons (λ (row : StatusRow). cond (row.last_station == s) 1 0) r rs) in
    let sum = up_to-add (λ s. cond (r.last_station == s) 1 0) (λ s. count_by (λ (row : StatusRow). row.last_station == s) rs) n in
    omega arith

calls_most : (rows : List StatusRow) (n m : ℕ) → length rows ≡ suc m → up_to (calls_of rows) n ≤ m
calls_most [] n m e = absurd (omega arith)
calls_most (r ∷ rs) n m e = let h = named_most rs n in omega arith

-- where each share is at most the calls, and the sum of the shares is at least theirs, each is the calls
equal_each : (f : ℕ → ℕ) (zs : List Seated) → All (λ z. z.share ≤ f z.station) zs → (sum_by (λ z. z.share) zs ≤ sum_by (λ z. f z.station) zs) × (sum_by (λ z. f z.station) zs ≤ sum_by (λ z. z.share) zs → All (λ z. z.share ≡ f z.station) zs)
equal_each f [] all = (le_of_eq refl, λ h. All-nil (λ z. z.share ≡ f z.station))
equal_each f (z ∷ zs) all =
    let here = All-head (λ z. z.share ≤ f z.station) z zs all in
    let there = equal_each f zs (All-tail (λ z. z.share ≤ f z.station) z zs all) in
    let most = there.0 in
    let a = sum_by-cons (λ (z : Seated). z.share) z zs in
    let b = sum_by-cons (λ (z : Seated). f z.station) z zs in
    (omega arith, λ h. All-cons (λ z. z.share ≡ f z.station) z zs (omega arith) (there.1 (omega arith)))

-- where each station has a seat, as many seats as stations are there, and the shares are the journal's length, each share is its station's calls
pub agree : (n m : ℕ) (zs : List Seated) (known : Known) → AreSeated zs n → length zs ≡ n → length known.rows ≡ suc m → m ≤ sum_by (λ z. z.share) zs → All (IsWithin known) zs → All (AgreesWith known.rows) zs
agree n m zs known all many long whole within =
    let rows = known.rows in
    let same = (covered n zs all).1 many (calls_of rows) in
    let most = calls_most rows n m long in
    let each = (equal_each (calls_of rows) zs (All-weaker (IsWithin known) (λ z. z.share ≤ calls_of rows z.station) (λ z t. t.calls) zs within)).1 (omega arith) in
    λ k d low. ((within k d low).rows, each k d low)
