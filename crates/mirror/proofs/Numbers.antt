-- Numbers that come byte by byte.
use Rattle.std.proofs.Common.{◌≡◌, ℕ, zero, suc, ◌+◌, ◌-◌, ◌*◌, ◌/◌, ◌%◌, ◌^◌, ◌<◌, List, [], ◌∷◌, ◌++◌, drop, refl, sym, ◌∙◌, ap, subst, arith, slice_index}
use Rattle.std.specs.Prelude.{◌↔◌, All, length}
use Rattle.std.specs.Int.{byte_at, bytes_low_first}
use Rattle.std.proofs.Math.Nat.{div-div-eq-div-mul, div-add-mod', pow-suc, pow-succ', div-lt_iff_lt-mul}
use Rattle.std.proofs.lemmas.Nat.{div-mul-add, mod-mul-add}
use Rattle.byteorder.specs.Endian.{little_bytes}
use Rattle.byteorder.specs.Numbers.{length-bytes_low_first}
use Rattle.std.proofs.lemmas.List.{length-append}
use Rattle.std.proofs.lemmas.List.Elements.{All-nil, All-cons, All-tail}
use Rattle.eaw_face.specs.Frame.{IsByte}
use Rattle.mirror.specs.Rest.{NumberRest, BytesRest}

byte_at-next : (j n : ℕ) → byte_at (suc j) n ≡ byte_at j (n / 256)
byte_at-next zero n = ap (λ (p : ℕ). n / p % 256) (pow-suc 256 0)
byte_at-next (suc j) n = ap (λ (m : ℕ). m % 256) (ap (λ (p : ℕ). n / p) (pow-succ' 256 (suc j)) ∙ sym (div-div-eq-div-mul n 256 (256 ^ suc j)))

-- the bytes from the second on are those of the number without its lowest byte
low_next : (j k n : ℕ) → bytes_low_first (suc j) k n ≡ bytes_low_first j k (n / 256)
low_next j zero n = refl
low_next j (suc k) n = λ i. byte_at-next j n i ∷ low_next (suc j) k n i

pub little_cons : (k high byte : ℕ) → byte < 256 → little_bytes (suc k) (high * 256 + byte) ≡ byte ∷ little_bytes k high
little_cons k high byte small =
    (λ i. mod-mul-add high 256 byte small i ∷ low_next 0 k (high * 256 + byte) i)
    ∙ ap (λ (h : ℕ). byte ∷ little_bytes k h) (div-mul-add high 256 byte small)

pub first_same : (a b : ℕ) (xs ys : List ℕ) → a ∷ xs ≡ b ∷ ys → a ≡ b
first_same a b xs ys e = ap (λ (l : List ℕ). slice_index l 0) e

pub rest_same : (a b : ℕ) (xs ys : List ℕ) → a ∷ xs ≡ b ∷ ys → xs ≡ ys
rest_same a b xs ys e = ap (λ (l : List ℕ). drop 1 l) e

module _ (Then : ℕ → List ℕ → Type 0) where
  -- no byte is to come
  pub number_done : (value weight : ℕ) (bytes : List ℕ) → NumberRest 0 value weight Then bytes ↔ Then value bytes
  number_done value weight bytes = (
    (λ r. let none : r.high ≡ 0 = omega (arith, r.fits) in
        let same : value + weight * r.high ≡ value = ap (λ (h : ℕ). value + weight * h) none ∙ omega arith in
        subst (λ (p : ℕ × List ℕ). Then p.0 p.1) (λ i. (same i, sym r.is i)) r.after),
    (λ after. record { high = 0; fits = omega arith; rest = bytes; is = refl; after = subst (λ (v : ℕ). Then v bytes) (omega arith) after }),
  )

  -- the whole number is to come
  pub number_first : (k : ℕ) (bytes : List ℕ) (x : ℕ) (rest : List ℕ) → x < 256 ^ k → bytes ≡ little_bytes k x ++ rest → Then x rest → NumberRest k 0 1 Then bytes
  number_first k bytes x rest fits is after = record { high = x; fits = fits; rest = rest; is = is; after = subst (λ (v : ℕ). Then v rest) (omega arith) after }

  pub number_whole : (k : ℕ) (bytes : List ℕ) (r : NumberRest k 0 1 Then bytes) → Then r.high r.rest
  number_whole k bytes r = let same : 0 + 1 * r.high ≡ r.high = omega arith in subst (λ (v : ℕ). Then v r.rest) same r.after

  module _ (k value weight value' weight' byte : ℕ) (small : byte < 256) (value_is : value' ≡ value + weight * byte) (weight_is : 0 < k → weight' ≡ weight * 256) where
    moved : (k : ℕ) → (0 < k → weight' ≡ weight * 256) → (high : ℕ) → high < 256 ^ k → value + weight * (high * 256 + byte) ≡ value' + weight' * high
    moved zero weight_is high fits =
        let none : high ≡ 0 = omega (arith, fits) in
        ap (λ (h : ℕ). value + weight * (h * 256 + byte)) none ∙ omega (arith, value_is) ∙ ap (λ (h : ℕ). value' + weight' * h) (sym none)
    moved (suc k) weight_is high fits =
        let more : weight' ≡ weight * 256 = weight_is (omega arith) in
        let spread : value + weight * (high * 256 + byte) ≡ (value + weight * byte) + weight * 256 * high = omega arith in
        spread ∙ (λ i. sym value_is i + sym more i * high)

    -- a byte is taken
    pub number_more : (bytes : List ℕ) → NumberRest (suc k) value weight Then (byte ∷ bytes) ↔ NumberRest k value' weight' Then bytes
    number_more bytes = (
      (λ r.
          let power : 256 ^ suc k ≡ 256 ^ k * 256 = pow-suc 256 k in
          let high = r.high / 256 in
          let low : byte ≡ r.high % 256 = first_same byte (r.high % 256) bytes (bytes_low_first 1 k r.high ++ r.rest) r.is in
          let whole : r.high ≡ high * 256 + byte = sym (div-add-mod' r.high 256) ∙ ap (λ (b : ℕ). high * 256 + b) (sym low) in
          let fits : high < 256 ^ k = (div-lt_iff_lt-mul {k = 256} {x = r.high} {y = 256 ^ k} (omega arith)).1 (omega (arith, r.fits, power)) in
          record {
            high = high;
            fits = fits;
            rest = r.rest;
            is = rest_same byte (r.high % 256) bytes (bytes_low_first 1 k r.high ++ r.rest) r.is ∙ ap (λ (l : List ℕ). l ++ r.rest) (low_next 0 k r.high);
            after = subst (λ (v : ℕ). Then v r.rest) (ap (λ (h : ℕ). value + weight * h) whole ∙ moved k weight_is high fits) r.after;
          }),
      (λ r.
          let power : 256 ^ suc k ≡ 256 ^ k * 256 = pow-suc 256 k in
          record {
            high = r.high * 256 + byte;
            fits = omega (arith, r.fits, power, small);
            rest = r.rest;
            is = ap (λ (l : List ℕ). byte ∷ l) r.is ∙ ap (λ (l : List ℕ). l ++ r.rest) (sym (little_cons k r.high byte small));
            after = subst (λ (v : ℕ). Then v r.rest) (sym (moved k weight_is r.high r.fits)) r.after;
          }),
    )

-- the same for a number of `left` bytes of which one is taken, which is not its last
pub number_goes : (Then : ℕ → List ℕ → Type 0) (left left' value weight value' weight' byte : ℕ) → byte < 256 → 0 < left → left' ≡ left - 1 → value' ≡ value + weight * byte → (0 < left' → weight' ≡ weight * 256)
    → (bytes : List ℕ) → NumberRest left value weight Then (byte ∷ bytes) ↔ NumberRest left' value' weight' Then bytes
number_goes Then left left' value weight value' weight' byte small some less value_is weight_is bytes =
    let is : suc left' ≡ left = omega arith in
    subst (λ (l : ℕ). NumberRest l value weight Then (byte ∷ bytes) ↔ NumberRest left' value' weight' Then bytes) is
    (number_more Then left' value weight value' weight' byte small value_is weight_is bytes)

-- or which is its last
pub number_ends : (Then : ℕ → List ℕ → Type 0) (left left' value weight value' byte : ℕ) → byte < 256 → 0 < left → left' ≡ left - 1 → (0 < left' → ⊥) → value' ≡ value + weight * byte
    → (bytes : List ℕ) → NumberRest left value weight Then (byte ∷ bytes) ↔ Then value' bytes
number_ends Then left left' value weight value' byte small some less last value_is bytes =
    let none : left' ≡ 0 = omega (arith, last) in
    let goes = number_goes Then left 0 value weight value' 1 byte small some (sym none ∙ less) value_is (λ no. absurd (omega arith)) bytes in
    let done = number_done Then value' 1 bytes in
    ((λ r. done.0 (goes.0 r)), (λ after. goes.1 (done.1 after)))

-- a number of which nothing has come
pub number_begins : (Then : ℕ → List ℕ → Type 0) (k left value weight : ℕ) → left ≡ k → value ≡ 0 → weight ≡ 1 → (bytes : List ℕ) → NumberRest k 0 1 Then bytes ↔ NumberRest left value weight Then bytes
number_begins Then k left value weight left_is value_is weight_is bytes = (
  (λ r. subst (λ (p : ℕ × ℕ × ℕ). NumberRest p.0 p.1 p.2 Then bytes) (λ i. (sym left_is i, sym value_is i, sym weight_is i)) r),
  (λ r. subst (λ (p : ℕ × ℕ × ℕ). NumberRest p.0 p.1 p.2 Then bytes) (λ i. (left_is i, value_is i, weight_is i)) r),
)

pub both_ways : {A B C : Type 0} → A ↔ B → B ↔ C → A ↔ C
both_ways one two = ((λ a. two.0 (one.0 a)), (λ c. one.1 (two.1 c)))

-- a byte of several is taken, or the last one
pub byte_more : (Then : List ℕ → Type 0) (n byte : ℕ) (bytes : List ℕ) → byte < 256 → BytesRest (suc n) Then (byte ∷ bytes) ↔ BytesRest n Then bytes
byte_more Then n byte bytes small = (
  (λ r. first r.first r.count r.small r.rest r.is r.after),
  (λ r. record { first = byte ∷ r.first; count = omega (arith, r.count); small = All-cons IsByte byte r.first small r.small; rest = r.rest; is = ap (λ (l : List ℕ). byte ∷ l) r.is; after = r.after }),
)
  where
    first : (l : List ℕ) → length l ≡ suc n → All IsByte l → (rest : List ℕ) → byte ∷ bytes ≡ l ++ rest → Then rest → BytesRest n Then bytes
    first [] count small rest is after = absurd (omega (arith, count))
    first (x ∷ l) count small rest is after = record { first = l; count = omega (arith, count); small = All-tail IsByte x l small; rest = rest; is = rest_same byte x bytes (l ++ rest) is; after = after }

pub byte_last : (Then : List ℕ → Type 0) (byte : ℕ) (bytes : List ℕ) → byte < 256 → BytesRest 1 Then (byte ∷ bytes) ↔ Then bytes
byte_last Then byte bytes small = both_ways (byte_more Then 0 byte bytes small) (
  (λ r. none r.first r.count r.rest r.is r.after),
  (λ after. record { first = []; count = refl; small = All-nil IsByte; rest = bytes; is = refl; after = after }),
)
  where
    none : (l : List ℕ) → length l ≡ 0 → (rest : List ℕ) → bytes ≡ l ++ rest → Then rest → Then bytes
    none [] count rest is after = subst Then (sym is) after
    none (x ∷ l) count rest is after = absurd (omega (arith, count))

-- a number or bytes that are to come are not there without a byte
pub number_needs : (Then : ℕ → List ℕ → Type 0) (left value weight : ℕ) → 0 < left → NumberRest left value weight Then [] → ⊥
number_needs Then left value weight some r =
    let long = length-bytes_low_first 0 left r.high in
    let all = length-append (little_bytes left r.high) r.rest in
    let none : 0 ≡ length (little_bytes left r.high ++ r.rest) = ap (λ (l : List ℕ). length l) r.is in
    omega (arith, long, all, none, some)

pub bytes_need : (Then : List ℕ → Type 0) (n : ℕ) → 0 < n → BytesRest n Then [] → ⊥
bytes_need Then n some r =
    let all = length-append r.first r.rest in
    let none : 0 ≡ length (r.first ++ r.rest) = ap (λ (l : List ℕ). length l) r.is in
    omega (arith, all, none, r.count, some)
