-- What is shown of bytes.
use Rattle.std.proofs.Common.{◌≡◌, ℕ, List, [], ◌∷◌, true, ap, refl}
use Rattle.std.specs.List.{list_all}
use Rattle.std.proofs.lemmas.Bool.{and_parts}
use Rattle.table_text.specs.Shown.{is_plain, shown_byte, shown_bytes}

plain_byte : (byte : ℕ) → is_plain byte ≡ true → shown_byte byte ≡ byte ∷ []
plain_byte byte h = rw h refl

-- plain bytes are shown as they are
pub plain_bytes : (bytes : List ℕ) → list_all is_plain bytes ≡ true → shown_bytes bytes ≡ bytes
plain_bytes [] h = refl
plain_bytes (b ∷ bs) h =
    let parts = and_parts _ _ h in
    rw (plain_byte b parts.0) (ap (λ (rest : List ℕ). b ∷ rest) (plain_bytes bs parts.1))
