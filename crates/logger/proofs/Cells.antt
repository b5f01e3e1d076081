-- Cells that are written, in part or whole.
use Rattle.std.proofs.Common.{◌≡◌, ℕ, zero, suc, ◌+◌, ◌*◌, ◌^◌, ◌<◌, ◌≤◌, inl, inr, List, [], ◌∷◌, ◌++◌, length, get_or, take, drop, sym, ◌∙◌, ap, subst, arith}
use Rattle.std.proofs.lemmas.List.{length-append, get_or_append_left, get_or-append-add, get_or-drop, get_or-take, length-take-le, length-drop, ext_get_or}
use Rattle.std.proofs.lemmas.Bool.{cases_lt, cases_eq}
use Rattle.std.proofs.lemmas.Nat.{mul-le}
use Rattle.mars_base.specs.Bytes.{put, range}
use Rattle.pcm_media.specs.Images.{SameOutside}
use Rattle.mars_base.proofs.Puts.{length-put, get_or-put_before, get_or-put_after, get_or-put_inside}
use Rattle.pcm_media.proofs.Left.{get_or-put_outside}
use Rattle.pcm_media.proofs.Ranges.{get_or-range, length-range}
use Rattle.array_shape.specs.declared.shape.Shape.{Shape}
use Rattle.array_shape.specs.Places.{media_len, cell_at}
use Rattle.array_shape.specs.Areas.{cell as cell_area}
use Rattle.array_shape.proofs.Apart.{areas_apart}
use Rattle.row_bytes.specs.declared.head.Head.{Head}
use Rattle.row_bytes.specs.Written.{head_bytes}
use Rattle.row_bytes.proofs.Saying.{head_said-same, head_said-bytes}
use Rattle.array_shape.specs.Logged.{Part, applied, IsOwned}
use Rattle.array_image.specs.Image.{cell_of, cell_head, cell_part, parts_from, IsGoodCell}
use Rattle.array_image.proofs.Places.{cell_fits_in}
use Rattle.array_image.proofs.Rows.{cell_away, parts_same}
use Rattle.logger.specs.Cells.{cell_writes, HoldsParts}

-- a write within a range
pub range-put : (old : List ℕ) (at n from : ℕ) (bytes : List ℕ) → at + n ≤ length old → from + length bytes ≤ n → range (put old (at + from) bytes) at n ≡ put (range old at n) from bytes
range-put old at n from bytes inside within =
    let new = put old (at + from) bytes in
    let fits : at + from + length bytes ≤ length old = omega arith in
    let long = length-range old at n inside in
    let long' : length (range (put old (at + from) bytes) at n) ≡ n = length-range (put old (at + from) bytes) at n (omega (arith, length-put old (at + from) bytes fits)) in
    let inner : from + length bytes ≤ length (range old at n) = omega arith in
    ext_get_or 0 (range (put old (at + from) bytes) at n) (put (range old at n) from bytes) (long' ∙ sym long ∙ sym (length-put (range old at n) from bytes inner)) (λ i lt.
    let small : i < n = omega arith in
    get_or-range new at n i small ∙ elim (cases_lt i from) [
      | inl before ↦ get_or-put_before old (at + from) bytes fits (at + i) (omega arith) ∙ sym (get_or-put_before (range old at n) from bytes inner i before ∙ get_or-range old at n i small)
      | inr past ↦ elim (cases_lt i (from + length bytes)) [
        | inl inside ↦ get_or-put_inside old (at + from) bytes fits (at + i) (omega arith) (omega arith) ∙ ap (λ (k : ℕ). get_or bytes k 0) (omega arith) ∙ sym (get_or-put_inside (range old at n) from bytes inner i past inside)
        | inr after ↦ get_or-put_after old (at + from) bytes fits (at + i) (omega arith) ∙ sym (get_or-put_after (range old at n) from bytes inner i after ∙ get_or-range old at n i small)
      ]
    ])

module _ (shape : Shape) (g t e : ℕ) (old : List ℕ) (long : length old ≡ media_len shape) (there : g < shape.loggers) (small : t < shape.numbers) (below : e < shape.entries) where
  -- bytes behind the head
  pub cell_of-put : (at : ℕ) (bytes : List ℕ) → at + length bytes ≤ 512 → cell_of shape (put old (cell_at shape g t e + 16 + at) bytes) g t e ≡ put (cell_of shape old g t e) (16 + at) bytes
  cell_of-put at bytes within =
      let place : cell_at shape g t e + 16 + at ≡ cell_at shape g t e + (16 + at) = omega arith in
      ap (λ (k : ℕ). cell_of shape (put old k bytes) g t e) place
      ∙ range-put old (cell_at shape g t e) 528 (16 + at) bytes (omega (arith, cell_fits_in shape g t e there small below)) (omega arith)

module _ (shape : Shape) (g t : ℕ) (there : g < shape.loggers) (small : t < shape.numbers) where
  abbrev head_for : Part → Head
  head_for p = record { addr = p.0; len = length p.1 }

  -- a part in its cell
  abbrev put_one : List ℕ → ℕ → Part → List ℕ
  put_one image e p = put image (cell_at shape g t e) (head_bytes (head_for p) ++ p.1)

  module _ (image : List ℕ) (e : ℕ) (p : Part) (long : length image ≡ media_len shape) (below : e < shape.entries) (short : length p.1 ≤ 512) where
    abbrev at : ℕ
    at = cell_at shape g t e

    inside : at + 528 ≤ length image
    inside = omega (arith, cell_fits_in shape g t e there small below)

    abbrev written : List ℕ
    written = head_bytes (head_for p) ++ p.1

    written_fits : at + length written ≤ length image
    written_fits = omega (arith, inside)

    pub length-put_one : length (put_one image e p) ≡ length image
    length-put_one = length-put image at written written_fits

    pub one_away : SameOutside ((at, 528) ∷ []) image (put_one image e p)
    one_away = record {
      long = length-put_one;
      same = λ i out. get_or-put_outside image at written written_fits i (λ le lt. out.0 le (omega arith));
    }

    abbrev cell : List ℕ
    cell = cell_of shape (put_one image e p) g t e

    -- a byte of the cell that was written
    one_byte : (k : ℕ) → k < length written → get_or cell k 0 ≡ get_or written k 0
    one_byte k lt =
        get_or-range (put_one image e p) at 528 k (omega arith)
        ∙ get_or-put_inside image at written written_fits (at + k) (omega arith) (omega arith)
        ∙ ap (λ (j : ℕ). get_or written j 0) (omega arith)

    one_head : p.0 < 2 ^ 64 → cell_head cell ≡ head_for p
    one_head fits =
        head_said-same (take 16 cell) (head_bytes (head_for p)) (λ k lt.
        get_or-take 16 cell k 0 lt ∙ one_byte k (omega arith) ∙ get_or_append_left (head_bytes (head_for p)) p.1 0 k (omega arith))
        ∙ head_said-bytes (head_for p) fits (omega arith)

    one_bytes : take (length p.1) (drop 16 cell) ≡ p.1
    one_bytes =
        let whole = length-range (put_one image e p) at 528 (omega (arith, inside, length-put_one)) in
        ext_get_or 0 (take (length p.1) (drop 16 cell)) p.1 (length-take-le (length p.1) (drop 16 cell) (omega (arith, length-drop 16 cell, whole))) (λ i lt.
        let few : i < length p.1 = omega (arith, length-take-le (length p.1) (drop 16 cell) (omega (arith, length-drop 16 cell, whole))) in
        get_or-take (length p.1) (drop 16 cell) i 0 few ∙ get_or-drop 16 cell i 0 ∙ one_byte (16 + i) (omega arith) ∙ get_or-append-add (head_bytes (head_for p)) p.1 i 0)

    pub one_part : p.0 < 2 ^ 64 → cell_part cell ≡ p
    one_part fits = (λ i. ((one_head fits i).addr, take (one_head fits i).len (drop 16 cell))) ∙ ap (λ (bytes : List ℕ). (p.0, bytes)) one_bytes

    pub one_good : p.0 < 2 ^ 64 → IsOwned shape g p.0 (length p.1) → IsGoodCell shape g cell
    one_good fits owned = subst (λ head. IsOwned shape g head.addr head.len) (sym (one_head fits)) owned

  address_fits : (p : Part) → IsOwned shape g p.0 (length p.1) → p.0 < 2 ^ 64
  address_fits p owned =
      let pages : shape.loggers * shape.pages ≤ 8 * 4096 = mul-le shape.loggers shape.pages 8 4096 (omega arith) (omega arith) in
      omega (arith, owned.placed.inside, owned.placed.some)

  parts_from_more : (image : List ℕ) (n e : ℕ) → parts_from shape image g t e (suc n) ≡ parts_from shape image g t e n ++ cell_part (cell_of shape image g t (e + n)) ∷ []
  parts_from_more image zero e = ap (λ (k : ℕ). cell_part (cell_of shape image g t k) ∷ []) (let same : e ≡ e + 0 = omega arith in same)
  parts_from_more image (suc n) e =
      ap (λ (ps : List Part). cell_part (cell_of shape image g t e) ∷ ps) (parts_from_more image n (e + 1))
      ∙ ap (λ (k : ℕ). cell_part (cell_of shape image g t e) ∷ parts_from shape image g t (e + 1) n ++ cell_part (cell_of shape image g t k) ∷ []) (let same : e + 1 + n ≡ e + suc n = omega arith in same)

  -- one more part behind those that the cells hold
  pub holds_more : (ps : List Part) (p : Part) (e : ℕ) (image : List ℕ) → length image ≡ media_len shape → e + length ps < shape.entries → IsOwned shape g p.0 (length p.1)
      → HoldsParts shape image g t e ps → HoldsParts shape (applied (cell_writes shape g t (e + length ps) (p ∷ [])) image) g t e (ps ++ p ∷ [])
  holds_more ps p e image long below owned holds =
      let last = e + length ps in
      let short : length p.1 ≤ 512 = omega (arith, owned.placed.page) in
      let new = put_one image (e + length ps) p in
      let fits = address_fits p owned in
      let grown = length-append ps (p ∷ []) in
      let one = one_away image last p long below short in
      let same : (k : ℕ) → e ≤ k → k < e + length ps → cell_of shape (put_one image (e + length ps) p) g t k ≡ cell_of shape image g t k =
      λ k le lt. cell_away shape ((cell_at shape g t (e + length ps), 528) ∷ []) image (put_one image (e + length ps) p) g t k one (λ i from to. ((λ from' to'. omega arith), tt)) in
      record {
        hold = ap (parts_from shape new g t e) (let many : length (ps ++ p ∷ []) ≡ suc (length ps) = omega (arith, grown) in many)
            ∙ parts_from_more new (length ps) e
            ∙ (λ i. (parts_same shape image new g t e (length ps) same ∙ holds.hold) i ++ one_part image last p long below short fits i ∷ []);
        good = λ k le lt. elim (cases_eq k (e + length ps)) [
          | inl is ↦ subst (λ (j : ℕ). IsGoodCell shape g (cell_of shape (put_one image (e + length ps) p) g t j)) (sym is) (one_good image last p long below short fits owned)
          | inr ne ↦ subst (IsGoodCell shape g) (sym (same k le (omega (arith, grown)))) (holds.good k le (omega (arith, grown)))
        ];
      }

  -- the cells of another logger stay
  pub holds_beside : (h f : ℕ) → h < shape.loggers → f < shape.entries → (h ≡ g → ⊥) → (ps : List Part) (e : ℕ) (old new : List ℕ) → e + length ps ≤ shape.entries → SameOutside ((cell_at shape h t f, 528) ∷ []) old new
      → HoldsParts shape old g t e ps → HoldsParts shape new g t e ps
  holds_beside h f there' inside ne ps e old new fits same holds =
      let stays : (k : ℕ) → e ≤ k → k < e + length ps → cell_of shape new g t k ≡ cell_of shape old g t k =
      λ k le lt. cell_away shape ((cell_at shape h t f, 528) ∷ []) old new g t k same (λ i from to. (
        (λ from' to'. elim (areas_apart shape (cell_area h t f) (cell_area g t k) (there', small, inside) (there, small, omega arith) (λ is. ne (let first : h ≡ g = cc in first)))
            [ inl before ↦ omega arith | inr behind ↦ omega arith ]),
        tt,
      )) in
      record {
        hold = parts_same shape old new g t e (length ps) stays ∙ holds.hold;
        good = λ k le lt. subst (IsGoodCell shape g) (sym (stays k le lt)) (holds.good k le lt);
      }
