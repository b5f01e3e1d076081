-- One more call of those that a medium in memory keeps.
use Rattle.std.proofs.Common.{◌≡◌, ℕ, ◌+◌, ◌<◌, ◌≤◌, ◌⊎◌, Bool, true, false, inl, inr, ⊎_elim, List, [], ◌∷◌, ◌++◌, length, drop, refl, sym, ◌∙◌, ap, subst, arith}
use Rattle.std.proofs.lemmas.List.{take-append-le, drop-append-le, length-drop, nil_from_length}
use Rattle.pcm_media.specs.declared.call.Call.{Call}
use Rattle.pcm_media.specs.declared.call.Call.TheVariants.{Read, Write, Barrier}
use Rattle.pcm_media.specs.Calls.{Record}
use Rattle.mars_base.specs.Bytes.{put}
use Rattle.pcm_media.specs.Images.{Content, MayLeave}
use Rattle.pcm_media.specs.Replay.{byte_count_of, next_content_by, byte_count, total_bytes, asked_bytes, next_content, IsStamped, content_after, LeftBefore}

-- bytes that follow those of a call do not change what it does
next_content_by-append : (call : Call) (is_done : Bool) (written more : List ℕ) (content : Content) → byte_count_of call is_done ≤ length written → next_content_by call is_done (written ++ more) content ≡ next_content_by call is_done written content
next_content_by-append Read is_done written more content fits = refl
next_content_by-append (Write at len) true written more content fits = ap (λ (bytes : List ℕ). record { bytes = put content.bytes at bytes; unsettled = (at, len) ∷ content.unsettled }) (take-append-le len written more fits)
next_content_by-append (Write at len) false written more content fits = refl
next_content_by-append Barrier true written more content fits = refl
next_content_by-append Barrier false written more content fits = refl

module _ (made : Record) (more : List ℕ) where
  pub content_push : (records : List Record) (written : List ℕ) (content : Content) → total_bytes records ≡ length written → content_after (records ++ made ∷ []) (written ++ more) content ≡ next_content made more (content_after records written content)
  content_push [] written content whole = ap (λ (l : List ℕ). next_content made (l ++ more) content) (nil_from_length written (sym whole))
  content_push (x ∷ records) written content whole =
      let fits : byte_count x ≤ length written = omega arith in
      ap (λ (l : List ℕ). content_after (records ++ made ∷ []) l (next_content x (written ++ more) content)) (drop-append-le (byte_count x) written more fits)
      ∙ ap (content_after (records ++ made ∷ []) (drop (byte_count x) written ++ more)) (next_content_by-append x.call x.is_done written more content fits)
      ∙ content_push records (drop (byte_count x) written) (next_content x written content) (omega (arith, length-drop (byte_count x) written))

  module _ (t : ℕ) (image : List ℕ) where
    -- the same for equal written bytes and equal content
    moved : (records : List Record) (written written' : List ℕ) (content content' : Content) → written ≡ written' → content ≡ content' → LeftBefore records written content t image → LeftBefore records written' content' t image
    moved records written written' content content' w c left =
        subst (λ (x : Content). LeftBefore records written' x t image) c (subst (λ (x : List ℕ). LeftBefore records x content t image) w left)

    pub before_push : (records : List Record) (written : List ℕ) (content : Content) → total_bytes records ≡ length written → LeftBefore records written content t image → LeftBefore (records ++ made ∷ []) (written ++ more) content t image
    before_push [] written content whole left = absurd left
    before_push (x ∷ records) written content whole left =
        let fits : byte_count x ≤ length written = omega arith in
        ⊎_elim (λ here. inl here)
        (λ later. inr (moved (records ++ made ∷ []) (drop (byte_count x) written ++ more) (drop (byte_count x) (written ++ more)) (next_content x written content) (next_content x (written ++ more) content)
        (sym (drop-append-le (byte_count x) written more fits)) (sym (next_content_by-append x.call x.is_done written more content fits))
        (before_push records (drop (byte_count x) written) (next_content x written content) (omega (arith, length-drop (byte_count x) written)) later)))
        left

    pub before_last : (records : List Record) (written : List ℕ) (content : Content) → total_bytes records ≡ length written → t < made.moment → MayLeave (content_after records written content) image → LeftBefore (records ++ made ∷ []) (written ++ more) content t image
    before_last [] written content whole lt left = inl (lt, left)
    before_last (x ∷ records) written content whole lt left =
        let fits : byte_count x ≤ length written = omega arith in
        inr (moved (records ++ made ∷ []) (drop (byte_count x) written ++ more) (drop (byte_count x) (written ++ more)) (next_content x written content) (next_content x (written ++ more) content)
        (sym (drop-append-le (byte_count x) written more fits)) (sym (next_content_by-append x.call x.is_done written more content fits))
        (before_last records (drop (byte_count x) written) (next_content x written content) (omega (arith, length-drop (byte_count x) written)) lt left))

    pub before_only : (records : List Record) (written : List ℕ) (content : Content) → total_bytes records ≡ length written → LeftBefore (records ++ made ∷ []) (written ++ more) content t image → LeftBefore records written content t image ⊎ MayLeave (content_after records written content) image
    before_only [] written content whole left = ⊎_elim (λ here. inr here.1) (λ none. absurd none) left
    before_only (x ∷ records) written content whole left =
        let fits : byte_count x ≤ length written = omega arith in
        ⊎_elim (λ here. inl (inl here))
        (λ later. ⊎_elim (λ before. inl (inr before)) (λ last. inr last)
        (before_only records (drop (byte_count x) written) (next_content x written content) (omega (arith, length-drop (byte_count x) written))
        (moved (records ++ made ∷ []) (drop (byte_count x) (written ++ more)) (drop (byte_count x) written ++ more) (next_content x (written ++ more) content) (next_content x written content)
        (drop-append-le (byte_count x) written more fits) (next_content_by-append x.call x.is_done written more content fits) later)))
        left

  pub total_bytes-push : (records : List Record) → total_bytes (records ++ made ∷ []) ≡ total_bytes records + byte_count made
  total_bytes-push [] = omega arith
  total_bytes-push (x ∷ records) = omega (arith, total_bytes-push records)

  pub asked_bytes-push : (records : List Record) → asked_bytes (records ++ made ∷ []) ≡ asked_bytes records + byte_count_of made.call true
  asked_bytes-push [] = omega arith
  asked_bytes-push (x ∷ records) = omega (arith, asked_bytes-push records)

-- the bytes that belong to calls are among those that they were to write
pub total_asked : (records : List Record) → total_bytes records ≤ asked_bytes records
total_asked [] = omega arith
total_asked (x ∷ records) = omega (arith, own x.call x.is_done, total_asked records)
  where
    own : (call : Call) (is_done : Bool) → byte_count_of call is_done ≤ byte_count_of call true
    own Read is_done = omega arith
    own (Write at len) true = omega arith
    own (Write at len) false = omega arith
    own Barrier is_done = omega arith

pub stamped_push : (made : Record) (now : ℕ) (records : List Record) → made.moment ≤ now → IsStamped now records → IsStamped now (records ++ made ∷ [])
stamped_push made now [] le stamped = (le, tt)
stamped_push made now (x ∷ records) le stamped = (stamped.0, stamped_push made now records le stamped.1)

pub stamped_later : (now then : ℕ) (records : List Record) → now ≤ then → IsStamped now records → IsStamped then records
stamped_later now then [] le stamped = tt
stamped_later now then (x ∷ records) le stamped = (omega (arith, stamped.0), stamped_later now then records le stamped.1)

-- a call came after the moment, so the moment is past
pub before_past : (now t : ℕ) (image : List ℕ) (records : List Record) (written : List ℕ) (content : Content) → IsStamped now records → LeftBefore records written content t image → t < now
before_past now t image [] written content stamped left = absurd left
before_past now t image (x ∷ records) written content stamped left =
    ⊎_elim (λ here. omega (arith, here.0, stamped.0)) (λ later. before_past now t image records (drop (byte_count x) written) (next_content x written content) stamped.1 later) left
