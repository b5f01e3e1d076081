-- A buffer that is filled part by part.
use Rattle.std.proofs.Common.{◌≡◌, ℕ, ◌+◌, ◌-◌, ◌%◌, ◌<◌, ◌≤◌, inl, inr, ◌⊎◌, Bool, false, cond, List, [], ◌∷◌, ◌++◌, length, get_or, take, drop, min, max, IsTrue, refl, sym, ap, subst, ◌∙◌, arith}
use Rattle.std.specs.Prelude.{All, count_by, nat_lt}
use Rattle.std.proofs.lemmas.Bool.{cases_lt, le-ltb}
use Rattle.std.proofs.lemmas.List.{ext_get_or, get_or_append_left, get_or-append_right, get_or-take, length-take, length-drop}
use Rattle.std.proofs.lemmas.List.Elements.{All-head, All-tail}
use Rattle.std.proofs.lemmas.List.Sums.{sum_by-cons}
use Rattle.mars_base.specs.Bytes.{range}
use Rattle.pcm_media.proofs.Ranges.{length-range, get_or-range}
use Rattle.array_shape.specs.declared.shape.Shape.{Shape}
use Rattle.array_shape.specs.declared.part.Part.{Part}
use Rattle.array_shape.specs.Places.{media_len, data_len, place_of}
use Rattle.array_shape.specs.Parts.{AreCutAtPages, IsPartOf, Tile}
use Rattle.array_image.specs.Image.{data_of}
use Rattle.array_image.proofs.Places.{place_next, place_fits_in}
use Rattle.array_image.proofs.Data.{get_or-data_of, length-data_of}
use Rattle.write_back.specs.declared.entry.Entry.{Entry}
use Rattle.write_back.specs.Entries.{IsEntry}
use Rattle.write_back.specs.Reading.{meets}

-- a part within a page lies within the medium, and is read at its place
pub part_fits : (shape : Shape) (part : Part) → IsPartOf shape part → place_of shape part.addr + part.len ≤ media_len shape
part_fits shape part is =
    let page : part.addr % 512 + (part.len - 1) < 512 = omega (arith, is.placed.page, is.placed.some) in
    let inside : part.addr + (part.len - 1) < data_len shape = omega (arith, is.placed.inside, is.placed.some) in
    omega (arith, place_next shape part.addr (part.len - 1) page, place_fits_in shape (part.addr + (part.len - 1)) inside, is.placed.some)

pub part_read : (shape : Shape) (image : List ℕ) (part : Part) → length image ≡ media_len shape → IsPartOf shape part → range image (place_of shape part.addr) part.len ≡ range (data_of shape image) part.addr part.len
part_read shape image part long is =
    let fits = part_fits shape part is in
    let here = length-range image (place_of shape part.addr) part.len (omega (arith, long)) in
    let there = length-range (data_of shape image) part.addr part.len (omega (arith, length-data_of shape image, is.placed.inside)) in
    ext_get_or 0 (range image (place_of shape part.addr) part.len) (range (data_of shape image) part.addr part.len) (here ∙ sym there) (λ j below.
    let lt : j < part.len = omega (arith, here) in
    let page : part.addr % 512 + j < 512 = omega (arith, is.placed.page) in
    let inside : part.addr + j < data_len shape = omega (arith, is.placed.inside) in
    get_or-range image (place_of shape part.addr) part.len j lt
    ∙ ap (λ (k : ℕ). get_or image k 0) (sym (place_next shape part.addr j page))
    ∙ sym (get_or-range (data_of shape image) part.addr part.len j lt ∙ get_or-data_of shape image (part.addr + j) inside))

-- a range that is cut where a page begins, or that ends at the cut: each entry has bytes of one of the two at most
module _ (shape : Shape) (a p r : ℕ) (cut : ((a + p) % 512 ≡ 0) ⊎ (r ≡ 0)) where
  side : (e : Entry) → IsEntry shape e → (a + p) % 512 ≡ 0 → (e.addr + e.len ≤ a + p) ⊎ (a + p ≤ e.addr)
  side e is begins = elim (cases_lt e.addr (a + p)) [
    | inl before ↦ inl (let page = is.placed.page in omega arith)
    | inr behind ↦ inr behind
  ]

  first_only : (e : Entry) → meets a (p + r) e ≡ meets a p e → meets (a + p) r e ≡ false → cond {A = ℕ} (meets a (p + r) e) 1 0 ≡ cond (meets a p e) 1 0 + cond (meets (a + p) r e) 1 0
  first_only e same none = omega (arith, ap (λ (b : Bool). cond {A = ℕ} b 1 0) same, ap (λ (b : Bool). cond {A = ℕ} b 1 0) none)

  split_one : (e : Entry) → IsEntry shape e → cond {A = ℕ} (meets a (p + r) e) 1 0 ≡ cond (meets a p e) 1 0 + cond (meets (a + p) r e) 1 0
  split_one e is = elim cut [
    | inl begins ↦ elim (side e is begins) [
      | inl before ↦
          let same : min (e.addr + e.len) (a + (p + r)) ≡ min (e.addr + e.len) (a + p) = omega arith in
          first_only e (ap (nat_lt (max e.addr a)) same) (le-ltb (max e.addr (a + p)) (min (e.addr + e.len) (a + p + r)) (omega arith))
      | inr behind ↦
          let same_end : min (e.addr + e.len) (a + (p + r)) ≡ min (e.addr + e.len) (a + p + r) = omega arith in
          let same_start : max e.addr a ≡ max e.addr (a + p) = omega arith in
          let same : meets a (p + r) e ≡ meets (a + p) r e = (λ i. nat_lt (same_start i) (same_end i)) in
          let none : meets a p e ≡ false = le-ltb (max e.addr a) (min (e.addr + e.len) (a + p)) (omega arith) in
          omega (arith, ap (λ (b : Bool). cond {A = ℕ} b 1 0) same, ap (λ (b : Bool). cond {A = ℕ} b 1 0) none)
    ]
    | inr ends ↦
        let same : min (e.addr + e.len) (a + (p + r)) ≡ min (e.addr + e.len) (a + p) = omega arith in
        first_only e (ap (nat_lt (max e.addr a)) same) (le-ltb (max e.addr (a + p)) (min (e.addr + e.len) (a + p + r)) (omega arith))
  ]

  pub split_count : (es : List Entry) → All (IsEntry shape) es → count_by (meets a (p + r)) es ≡ count_by (meets a p) es + count_by (meets (a + p) r) es
  split_count [] all = refl
  split_count (e ∷ es) all =
      omega (
        arith,
        sum_by-cons (λ f. cond (meets a (p + r) f) 1 0) e es,
        sum_by-cons (λ f. cond (meets a p f) 1 0) e es,
        sum_by-cons (λ f. cond (meets (a + p) r f) 1 0) e es,
        split_one e (All-head (IsEntry shape) e es all),
        split_count es (All-tail (IsEntry shape) e es all),
      )

-- where the loop stands: these parts are left, `done` bytes are read, and so many calls were made of all
pub record FillsAt (shape : Shape) (addr len : ℕ) (whole buf : List ℕ) (tells : Bool) (es : List Entry) (made all : ℕ) (left : List Part) : Type 0 where
  pub within : All (IsPartOf shape) left
  pub cut : AreCutAtPages left
  pub done : ℕ
  pub few : done ≤ len
  pub tile : Tile (addr + done) (len - done) left
  pub calls : made + (length left + count_by (meets (addr + done) (len - done)) es) ≡ all
  pub bytes : IsTrue tells → (i : ℕ) → i < done → get_or buf i 0 ≡ get_or whole (addr + i) 0

module _ (shape : Shape) (addr len : ℕ) (whole : List ℕ) (tells : Bool) (es : List Entry) (entries : All (IsEntry shape) es) (all : ℕ) where
  module _ (buf : List ℕ) (made : ℕ) (s rest : List Part) (part : Part) (next : s ≡ part ∷ rest) (fills : FillsAt shape addr len whole buf tells es made all s) where
    tile_here : Tile (addr + fills.done) (len - fills.done) (part ∷ rest)
    tile_here = subst (Tile (addr + fills.done) (len - fills.done)) next fills.tile

    pub within_here : IsPartOf shape part
    within_here = All-head (IsPartOf shape) part rest (subst (All (IsPartOf shape)) next fills.within)

    pub starts : part.addr ≡ addr + fills.done
    starts = tile_here.0

    pub stops : fills.done + part.len ≤ len
    stops = omega (arith, tile_here.1, fills.few)

    -- the next part begins a page, or there is none
    next_cut : (ps : List Part) → Tile (addr + fills.done + part.len) (len - fills.done - part.len) ps → All (λ q. q.addr % 512 ≡ 0) ps → ((addr + fills.done + part.len) % 512 ≡ 0) ⊎ (len - fills.done - part.len ≡ 0)
    next_cut [] tile begins = inr tile
    next_cut (q ∷ qs) tile begins = inl (ap (λ (k : ℕ). k % 512) (sym tile.0) ∙ All-head (λ q. q.addr % 512 ≡ 0) q qs begins)

    cut_rest : (ps : List Part) → All (λ q. q.addr % 512 ≡ 0) ps → AreCutAtPages ps
    cut_rest [] begins = tt
    cut_rest (q ∷ qs) begins = All-tail (λ q. q.addr % 512 ≡ 0) q qs begins

    begins_rest : All (λ q. q.addr % 512 ≡ 0) rest
    begins_rest = let cut : AreCutAtPages (part ∷ rest) = subst AreCutAtPages next fills.cut in cut

    -- the entries that meet this part, and those that meet what is left
    pub calls_here : length s + count_by (meets (addr + fills.done) (len - fills.done)) es ≡ 1 + count_by (meets part.addr part.len) es + (length rest + count_by (meets (addr + (fills.done + part.len)) (len - (fills.done + part.len))) es)
    calls_here =
        let left : len - fills.done - part.len ≡ len - (fills.done + part.len) = omega arith in
        let from : addr + fills.done + part.len ≡ addr + (fills.done + part.len) = omega arith in
        let whole_is : len - fills.done ≡ part.len + (len - fills.done - part.len) = omega (arith, stops) in
        omega (
          arith,
          ap length next,
          ap (λ (k : ℕ). count_by (meets (addr + fills.done) k) es) whole_is,
          split_count shape (addr + fills.done) part.len (len - fills.done - part.len) (next_cut rest tile_here.2 begins_rest) es entries,
          ap (λ (k : ℕ). count_by (meets k part.len) es) starts,
          let same : count_by (meets (addr + fills.done + part.len) (len - fills.done - part.len)) es ≡ count_by (meets (addr + (fills.done + part.len)) (len - (fills.done + part.len))) es = (λ i. count_by (meets (from i) (left i)) es) in same,
        )

    -- with the bytes of one more part
    pub fills_next : (new : List ℕ) (now : ℕ) → now ≡ made + (1 + count_by (meets part.addr part.len) es) → (IsTrue tells → (i : ℕ) → i < fills.done → get_or new i 0 ≡ get_or buf i 0)
        → (IsTrue tells → (j : ℕ) → j < part.len → get_or new (fills.done + j) 0 ≡ get_or whole (part.addr + j) 0) → FillsAt shape addr len whole new tells es now all rest
    fills_next new now now_is before here = record {
      within = All-tail (IsPartOf shape) part rest (subst (All (IsPartOf shape)) next fills.within);
      cut = cut_rest rest begins_rest;
      done = fills.done + part.len;
      few = stops;
      tile =
          let from : addr + fills.done + part.len ≡ addr + (fills.done + part.len) = omega arith in
          let left : len - fills.done - part.len ≡ len - (fills.done + part.len) = omega arith in
          subst (λ (p : ℕ × ℕ). Tile p.0 p.1 rest) (λ i. (from i, left i)) tile_here.2;
      calls = omega (arith, now_is, calls_here, fills.calls);
      bytes = λ told i lt. elim (cases_lt i fills.done) [
        | inl low ↦ before told i low ∙ fills.bytes told i low
        | inr past ↦
            ap (λ (k : ℕ). get_or new k 0) (omega arith) ∙ here told (i - fills.done) (omega arith)
            ∙ ap (λ (k : ℕ). get_or whole k 0) (omega (arith, starts))
      ];
    }

    module _ (long : length buf ≡ len) where
      -- the place of the part in the buffer
      pub here_len : (n : ℕ) → n ≡ part.len → length (take (part.addr - addr + n - (part.addr - addr)) (drop (part.addr - addr) buf)) ≡ part.len
      here_len n is =
          let few = stops in
          let at = starts in
          omega (arith, length-take (part.addr - addr + n - (part.addr - addr)) (drop (part.addr - addr) buf), length-drop (part.addr - addr) buf)

      pub fills_one : (inside : IsTrue tells → addr + len ≤ length whole) (got behind : List ℕ) (now : ℕ) → now ≡ made + (1 + count_by (meets part.addr part.len) es) → (IsTrue tells → got ≡ range whole part.addr part.len)
          → FillsAt shape addr len whole (take (part.addr - addr) buf ++ (got ++ behind)) tells es now all rest
      fills_one inside got behind now now_is got_is =
          let from = starts in
          let to = stops in
          let front = length-take (part.addr - addr) buf in
          fills_next (take (part.addr - addr) buf ++ (got ++ behind)) now now_is
          (λ told i lt. get_or_append_left (take (part.addr - addr) buf) (got ++ behind) 0 i (omega arith) ∙ get_or-take (part.addr - addr) buf i 0 (omega arith))
          (λ told j lt.
          let fits = inside told in
          let got_long = ap length (got_is told) ∙ length-range whole part.addr part.len (omega arith) in
          get_or-append_right (take (part.addr - addr) buf) (got ++ behind) (fills.done) (fills.done + j) 0 (omega arith) (omega arith)
          ∙ ap (λ (k : ℕ). get_or (got ++ behind) k 0) (omega arith)
          ∙ get_or_append_left got behind 0 j (omega arith)
          ∙ ap (λ (l : List ℕ). get_or l j 0) (got_is told)
          ∙ get_or-range whole part.addr part.len j lt)

  -- nothing is read yet
  pub fills_first : (buf : List ℕ) (made : ℕ) (s : List Part) → All (IsPartOf shape) s → Tile addr len s → AreCutAtPages s → made + (length s + count_by (meets addr len) es) ≡ all → FillsAt shape addr len whole buf tells es made all s
  fills_first buf made s within tile cut calls =
      let at : addr ≡ addr + 0 = omega arith in
      let left : len ≡ len - 0 = omega arith in
      record {
        within = within;
        cut = cut;
        done = 0;
        few = omega arith;
        tile = subst (λ (p : ℕ × ℕ). Tile p.0 p.1 s) (λ i. (at i, left i)) tile;
        calls = subst (λ (p : ℕ × ℕ). made + (length s + count_by (meets p.0 p.1) es) ≡ all) (λ i. (at i, left i)) calls;
        bytes = λ told i lt. absurd (omega (arith, lt));
      }

  -- when none is left
  pub fills_last : (buf : List ℕ) (made : ℕ) (s : List Part) → s ≡ [] → FillsAt shape addr len whole buf tells es made all s → length buf ≡ len → addr + len ≤ length whole → IsTrue tells → buf ≡ range whole addr len
  fills_last buf made s none fills long inside told =
      let done : len - fills.done ≡ 0 = subst (Tile (addr + fills.done) (len - fills.done)) none fills.tile in
      let outer = length-range whole addr len inside in
      ext_get_or 0 buf (range whole addr len) (long ∙ sym outer) (λ i lt. fills.bytes told i (omega (arith, fills.few)) ∙ sym (get_or-range whole addr len i (omega arith)))

  pub calls_last : (buf : List ℕ) (made : ℕ) (s : List Part) → s ≡ [] → FillsAt shape addr len whole buf tells es made all s → made ≡ all
  calls_last buf made s none fills =
      let done : len - fills.done ≡ 0 = subst (Tile (addr + fills.done) (len - fills.done)) none fills.tile in
      omega (arith, fills.calls, ap length none, ap (λ (k : ℕ). count_by (meets (addr + fills.done) k) es) done, nothing es)
    where
      nothing : (fs : List Entry) → count_by (meets (addr + fills.done) 0) fs ≡ 0
      nothing [] = refl
      nothing (f ∷ fs) =
          let none_here : meets (addr + fills.done) 0 f ≡ false = le-ltb (max f.addr (addr + fills.done)) (min (f.addr + f.len) (addr + fills.done + 0)) (omega arith) in
          omega (arith, sum_by-cons (λ h. cond (meets (addr + fills.done) 0 h) 1 0) f fs, ap (λ (b : Bool). cond {A = ℕ} b 1 0) none_here, nothing fs)
