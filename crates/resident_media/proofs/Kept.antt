-- What is kept after a read from below, after a write, and after a write that failed.
use Rattle.std.proofs.Common.{◌≡◌, ℕ, ◌+◌, ◌-◌, ◌*◌, ◌/◌, ◌%◌, ◌<◌, ◌≤◌, min, Bool, true, false, inl, inr, List, [], ◌∷◌, length, get_or, take, refl, sym, ◌∙◌, ap, arith}
use Rattle.std.proofs.lemmas.Bool.{cases_lt}
use Rattle.std.proofs.lemmas.List.{ext_get_or, get_or-take}
use Rattle.mars_base.specs.Bytes.{put, range}
use Rattle.mars_base.proofs.Puts.{length-put, get_or-put_inside}
use Rattle.pcm_media.specs.Images.{Content, Touched}
use Rattle.pcm_media.proofs.Left.{get_or-put_outside}
use Rattle.pcm_media.proofs.Ranges.{length-range, get_or-range}
use Rattle.resident_media.specs.Blocks.{Kept, Holds, IsSeen, IsPut, IsMarked, AreKnown, Covers, byte_at, end_block}
use Rattle.resident_media.specs.Resident.{AreThere}
use Rattle.resident_media.proofs.Spots.{not_both}

module _ (at count : ℕ) (part : List ℕ) (kept next : Kept) (long : length part ≡ count) (len : next.len ≡ kept.len) (covers : Covers at (length part) kept.len kept.known next.known)
    (is : IsPut at (length part) part kept next) where
  -- a kept byte that was not put
  unput : (content : List ℕ) → Holds kept content → (i : ℕ) → i < next.len → (at ≤ i → i < at + count → ⊥) → IsSeen next.known i → byte_at next i ≡ get_or content i 0
  unput content holds i lt out seen =
      let beside : at ≤ i → i < at + length part → ⊥ = λ le lt'. out le (omega (arith, lt', long)) in
      let was : IsSeen kept.known i = sym (covers.outside (i / 16384) (λ c. beside (omega (arith, c.1)) (omega (arith, c.2, lt, len)))) ∙ seen in
      is.outside i was beside ∙ holds i (omega (arith, lt, len)) was

  -- the part was read from below
  pub holds_fetched : (content : List ℕ) → part ≡ range content at count → Holds kept content → Holds next content
  holds_fetched content from holds i lt seen = elim (cases_lt i at) [
    | inl front ↦ unput content holds i lt (λ le lt'. omega (arith, front, le)) seen
    | inr le ↦ elim (cases_lt i (at + count)) [
      | inl inside ↦
          is.inside i seen le (omega (arith, inside, long)) ∙ ap (λ (l : List ℕ). get_or l (i - at) 0) from
          ∙ get_or-range content at count (i - at) (omega (arith, inside, le)) ∙ ap (λ (k : ℕ). get_or content k 0) (omega (arith, le))
      | inr rear ↦ unput content holds i lt (λ le' lt'. omega (arith, rear, lt')) seen
    ]
  ]

  -- it is as much of a write as is kept
  pub holds_put : (content bytes : List ℕ) → at + length bytes ≤ length content → at < kept.len → count ≡ min (length bytes) (kept.len - at) → part ≡ take count bytes
      → Holds kept content → Holds next (put content at bytes)
  holds_put content bytes fits far few from holds i lt seen =
      let old : (at ≤ i → i < at + length bytes → ⊥) → byte_at next i ≡ get_or (put content at bytes) i 0 = λ out.
      unput content holds i lt (λ le lt'. out le (omega (arith, few, lt'))) seen ∙ sym (get_or-put_outside content at bytes fits i out) in
      elim (cases_lt i at) [
        | inl front ↦ old (λ le lt'. omega (arith, front, le))
        | inr le ↦ elim (cases_lt i (at + count)) [
          | inl inside ↦
              is.inside i seen le (omega (arith, inside, long)) ∙ ap (λ (l : List ℕ). get_or l (i - at) 0) from
              ∙ get_or-take count bytes (i - at) 0 (omega (arith, inside, le)) ∙ sym (get_or-put_inside content at bytes fits i le (omega (arith, inside, few)))
          | inr rear ↦ old (λ le' lt'. omega (arith, rear, lt', few, lt, len, far))
        ]
      ]

-- what lies behind the kept bytes covers nothing
pub covers_cut : (at count total len : ℕ) (old new : List Bool) → at < len → count ≡ min total (len - at) → Covers at count len old new → Covers at total len old new
covers_cut at count total len old new far few covers = record {
  long = covers.long;
  inside = λ b c. covers.inside b (c.0, c.1, omega (arith, c.0, c.1, c.2, few, far));
  outside = λ b out. covers.outside b (λ c. out (c.0, c.1, omega (arith, c.2, few)));
}

-- a write behind the kept bytes
pub covers_beyond : (at total len : ℕ) (known : List Bool) → len ≤ at → Covers at total len known known
covers_beyond at total len known far = record {
  long = refl;
  inside = λ b c. absurd (omega (arith, c.0, c.1, far));
  outside = λ b out. refl;
}

pub holds_beyond : (kept : Kept) (content bytes : List ℕ) (at : ℕ) → at + length bytes ≤ length content → kept.len ≤ at → Holds kept content → Holds kept (put content at bytes)
holds_beyond kept content bytes at fits far holds i lt seen = holds i lt seen ∙ sym (get_or-put_outside content at bytes fits i (λ le lt'. omega (arith, far, lt, le)))

-- whole blocks
pub marks_fetched : (first end count len : ℕ) (old new : List Bool) → first < end → (end - 1) * 16384 < len → count ≡ min (end * 16384) len - first * 16384
    → Covers (first * 16384) count len old new → IsMarked first end true old new
marks_fetched first end count len old new some low few covers = record {
  long = covers.long;
  inside = λ b le lt. covers.inside b (omega (arith, lt, low), omega (arith, le), omega (arith, le, lt, few, low, some));
  outside = λ b out. covers.outside b (λ c. out (omega (arith, c.1)) (omega (arith, c.0, c.1, c.2, few, low, some)));
}

-- a write that failed
pub holds_forgotten : (kept next : Kept) (old new : Content) (at count : ℕ) → Touched ((at, count) ∷ []) old new → next.len ≡ kept.len → next.room ≡ kept.room → next.places ≡ kept.places
    → ((i : ℕ) → at ≤ i → i < at + count → get_or next.known (i / 16384) false ≡ false) → ((b : ℕ) → get_or next.known b false ≡ true → get_or kept.known b false ≡ true)
    → Holds kept old.bytes → Holds next new.bytes
holds_forgotten kept next old new at count touched len room places inside others holds i lt seen =
    ap (λ (l : List ℕ). byte_at (record { len = kept.len; room = l; places = next.places; known = kept.known }) i) room
    ∙ ap (λ (l : List ℕ). byte_at (record { len = kept.len; room = kept.room; places = l; known = kept.known }) i) places
    ∙ holds i (omega (arith, len, lt)) (others (i / 16384) seen) ∙ sym (touched.bytes.same i ((λ le lt'. not_both (sym (inside i le lt') ∙ seen)), tt))

-- a call that writes nothing
pub holds_same : (kept : Kept) (old new : Content) → Touched [] old new → Holds kept old.bytes → Holds kept new.bytes
holds_same kept old new touched holds i lt seen = holds i lt seen ∙ sym (touched.bytes.same i tt)

-- all lies in one known block
pub known_one : (known : List Bool) (at n : ℕ) → at % 16384 + n ≤ 16384 → get_or known (at / 16384) false ≡ true → AreKnown known (at / 16384) (end_block at n)
known_one known at n few is b le lt = ap (λ (k : ℕ). get_or known k false) (omega (arith, few, le, lt)) ∙ is

-- known bytes are those of the content
pub served : (kept : Kept) (content buf : List ℕ) (at n : ℕ) → at + n ≤ kept.len → at + n ≤ length content → length buf ≡ n → AreKnown kept.known (at / 16384) (end_block at n)
    → ((i : ℕ) → i < n → get_or buf i 0 ≡ byte_at kept (at + i)) → Holds kept content → buf ≡ range content at n
served kept content buf at n fits within long seen is holds =
    let one : length (range content at n) ≡ n = length-range content at n within in
    ext_get_or 0 buf (range content at n) (omega (arith, one, long))
    (λ i lt. is i (omega (arith, lt, long)) ∙ holds (at + i) (omega (arith, lt, long, fits)) (seen ((at + i) / 16384) (omega arith) (omega (arith, lt, long))) ∙ sym (get_or-range content at n i (omega (arith, lt, long))))

-- bytes that stand there in known blocks are those of the content
pub put_there : (kept : Kept) (content : List ℕ) (at : ℕ) (bytes : List ℕ) → at + length bytes ≤ kept.len → at + length bytes ≤ length content → AreKnown kept.known (at / 16384) (end_block at (length bytes))
    → AreThere kept at bytes → Holds kept content → put content at bytes ≡ content
put_there kept content at bytes fits within seen there holds =
    let stand : (i : ℕ) → at ≤ i → i < at + length bytes → get_or (put content at bytes) i 0 ≡ get_or content i 0 = λ i le lt.
    let here : at + (i - at) ≡ i = omega (arith, le) in
    get_or-put_inside content at bytes within i le lt ∙ sym (there (i - at) (omega (arith, le, lt))) ∙ ap (byte_at kept) here ∙ holds i (omega (arith, lt, fits)) (seen (i / 16384) (omega (arith, le)) (omega (arith, lt))) in
    ext_get_or 0 (put content at bytes) content (length-put content at bytes within) (λ i low. elim (cases_lt i at) [
      | inl front ↦ get_or-put_outside content at bytes within i (λ le lt. omega (arith, front, le))
      | inr le ↦ elim (cases_lt i (at + length bytes)) [
        | inl inside ↦ stand i le inside
        | inr rear ↦ get_or-put_outside content at bytes within i (λ le' lt. omega (arith, rear, lt))
      ]
    ])
