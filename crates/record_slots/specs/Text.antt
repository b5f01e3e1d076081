-- The text of a value and of a name, and how each is kept.
use Rattle.std.specs.Prelude.{ℕ, Bool, IsTrue, nat_le, ◌&&◌, ◌≡◌, ◌-◌, ◌<◌, ◌≤◌, List, ◌++◌, length, take, drop, replicate}
use Rattle.std.specs.List.{list_all}
use Rattle.std.proofs.Common.{ap, sym, ◌∙◌, arith}
use Rattle.std.proofs.lemmas.List.{take-append-drop, length-take-le}

-- a visible ASCII character
abbrev pub is_visible : ℕ → Bool
is_visible byte = nat_le 0x21 byte && nat_le byte 0x7E

-- 1 to 54 bytes, all of them visible
pub record IsValue (text : List ℕ) : Type 0 where
  pub some : 0 < length text
  pub short : length text ≤ 54
  pub visible : IsTrue (list_all is_visible text)

-- a small letter
abbrev pub is_letter : ℕ → Bool
is_letter byte = nat_le 0x61 byte && nat_le byte 0x7A

-- 1 to 16 letters from a to z
pub record IsName (text : List ℕ) : Type 0 where
  pub some : 0 < length text
  pub short : length text ≤ 16
  pub letters : IsTrue (list_all is_letter text)

-- a text of at most so many bytes that is as it should be, at the front, and zeros behind it
pub record IsStored (most : ℕ) (IsText : List ℕ → Type 0) (len : ℕ) (bytes : List ℕ) : Type 0 where
  pub size : length bytes ≡ most
  pub fits : len ≤ most
  pub text : IsText (take len bytes)
  pub padded : drop len bytes ≡ replicate (most - len) 0

-- the length is that of the text
pub stored_len : (most : ℕ) (IsText : List ℕ → Type 0) (len : ℕ) (bytes : List ℕ) → IsStored most IsText len bytes → length (take len bytes) ≡ len
stored_len most IsText len bytes h = length-take-le len bytes (omega (arith, h.size, h.fits))

-- the text and zeros are the bytes
pub stored_bytes : (most : ℕ) (IsText : List ℕ → Type 0) (len : ℕ) (bytes : List ℕ) → IsStored most IsText len bytes → take len bytes ++ replicate (most - length (take len bytes)) 0 ≡ bytes
stored_bytes most IsText len bytes h =
    rw (stored_len most IsText len bytes h) (ap (λ rest. take len bytes ++ rest) (sym h.padded) ∙ take-append-drop len bytes)
