-- A call after a step of the moment: one call below, or none.
use Rattle.std.proofs.Common.{◌≡◌, ℕ, ◌+◌, ◌-◌, ◌^◌, ◌≤◌, ◌⊎◌, Bool, true, inl, inr, List, [], ◌∷◌, length, Result, Ok, Err, refl, sym, ◌∙◌, ap, subst, arith}
use Rattle.std.proofs.lemmas.Bool.{and_parts, and_from}
use Rattle.std.proofs.lemmas.Bool.Decides.{nat_tests}
use Rattle.std.specs.Prelude.{IsTrue, IsOk, nat_le, ◌&&◌}
use Rattle.mars_base.specs.Moments.{Ticks}
use Rattle.mars_base.specs.Bytes.{put}
use Rattle.pcm_media.specs.Images.{Content, IsOutside, MayLeave, written}
use Rattle.pcm_media.specs.View.{View, Writes}
use Rattle.resident_media.specs.Past.{Past, IsWide, content_of, with_moment}
use Rattle.resident_media.specs.Blocks.{Kept, Holds}
use Rattle.resident_media.specs.Resident.{Resident, over, shown, Called, Served, IsTicked, Stepped, Lies, is_steady}
use Rattle.resident_media.proofs.Kept.{holds_same}
use Rattle.resident_media.proofs.Lifts.{lift_called, lift_served, lift_stopped}

module _ {M : Type 0} (tells : Bool) (view : M → View) where
  pub step_of : {T E : Type 0} (old now inside : Resident M) (result : Result T E) (x : T) → IsTicked tells view old now result → result ≡ Ok x → inside ≡ now → Stepped tells view old inside
  step_of {T = T} {E = E} old now inside result x ticked was is =
      let ok : IsTicked tells view old now (Ok x) = subst (λ (r : Result T E). IsTicked tells view old now r) was ticked in
      subst (λ (s : Resident M). Stepped tells view old s) (sym is) (record {
        inner = ok.inner;
        kept = ok.kept;
        low = ok.low;
        moment = ok.moment;
        faults = ok.faults;
        noted = ok.noted;
        later = ok.later;
        count = ok.count;
        before = ok.before;
        below = ok.below;
        wide = ok.wide;
      })

  -- which error it was is not told
  pub failed_too : {T U E F : Type 0} (ranges : List (ℕ × ℕ)) (old new : View) (e : E) (f : F) → (let was : Result T E = Err e in Writes tells ranges old new was) → (let answer : Result U F = Err f in Writes tells ranges old new answer)
  failed_too ranges old new e f w = record { size = w.size; cause = record { later = w.cause.later; failed = w.cause.failed; kept = tt }; device = w.device; touched = w.touched; time = w.time }

  -- a call at the last moment
  pub stopped_of : {T U E F : Type 0} (ranges : List (ℕ × ℕ)) (old now : Resident M) (result : Result T E) (e : E) (f : F) → IsTicked tells view old now result → result ≡ Err e
      → (let answer : Result U F = Err f in Writes tells ranges (shown view old) (shown view now) answer)
  stopped_of {T = T} {U = U} {E = E} {F = F} ranges old now result e f ticked was =
      let err : IsTicked tells view old now (Err e) = subst (λ (r : Result T E). IsTicked tells view old now r) was ticked in
      let answer : Result U F = Err f in
      let one : shown view now ≡ over (view old.inner) now.past now.moment now.faults = ap (λ m. over (view m) now.past now.moment now.faults) err.inner in
      let two : over (view old.inner) now.past now.moment now.faults ≡ over (view old.inner) old.past old.moment now.faults =
      ap (λ (p : Past). over (view old.inner) p now.moment now.faults) err.stays.1 ∙ ap (λ (r : ℕ). over (view old.inner) old.past r now.faults) err.stays.0 in
      subst (λ (v : View). Writes tells ranges (shown view old) v answer) (sym (one ∙ two))
      (lift_stopped tells ranges (view old.inner) old.past old.moment old.faults now.faults f err.counted err.risen)

  module _ (promises : M → ℕ → ℕ → Bool) (only_now : (m : M) (image : List ℕ) → IsTrue tells → (view m).left_since (view m).moment image → MayLeave (view m).content image)
      (old inside : Resident M) (s : Stepped tells view old inside) where
    -- what was noted before the call, with other ranges that are unsettled and other bytes that were spared
    abbrev pub noted : List (ℕ × ℕ) → ℕ → Past
    noted unsettled spared = record inside.past { unsettled = unsettled; spared = spared }

    abbrev New : M → Past → View
    New after past = over (view after) past inside.moment inside.faults

    -- the same by what was noted before the step
    there : (V : View) (unsettled : List (ℕ × ℕ)) (spared : ℕ)
        → over V (noted unsettled spared) inside.moment inside.faults ≡ over V (record (with_moment (view old.inner) old.past) { unsettled = unsettled; spared = spared }) (old.moment + 1) old.faults
    there V unsettled spared = ap (λ (p : Past). over V (record p { unsettled = unsettled; spared = spared }) inside.moment inside.faults) s.noted
        ∙ ap (λ (r : ℕ). over V (record (with_moment (view old.inner) old.past) { unsettled = unsettled; spared = spared }) r inside.faults) s.moment
        ∙ ap (λ (f : ℕ). over V (record (with_moment (view old.inner) old.past) { unsettled = unsettled; spared = spared }) (old.moment + 1) f) s.faults

    abbrev pub Spread : List (ℕ × ℕ) → List (ℕ × ℕ) → Type 0
    Spread ranges unsettled = (i : ℕ) → IsOutside ranges i → IsOutside inside.past.unsettled i → IsOutside unsettled i

    spread_from : (ranges unsettled : List (ℕ × ℕ)) → Spread ranges unsettled → (i : ℕ) → IsOutside ranges i → IsOutside old.past.unsettled i → IsOutside unsettled i
    spread_from ranges unsettled spread i out was = spread i out (subst (λ (p : Past). IsOutside p.unsettled i) (sym s.noted) was)

    pub does_called : {T E : Type 0} (ranges unsettled : List (ℕ × ℕ)) (spared : ℕ) (past : Past) (after : M) (result : Result T E) → past ≡ noted unsettled spared → Spread ranges unsettled
        → Writes tells ranges (view inside.inner) (view after) result → Writes tells ranges (shown view old) (New after past) result
    does_called ranges unsettled spared past after result is spread w =
        subst (λ (V : View). Writes tells ranges (shown view old) V result) (sym (ap (New after) is ∙ there (view after) unsettled spared))
        (lift_called tells (view old.inner) old.past old.moment old.faults s.count s.before s.below s.wide (only_now old.inner) ranges unsettled spared (view after) result (spread_from ranges unsettled spread)
        (subst (λ (m : M). Writes tells ranges (view m) (view after) result) s.inner w))

    pub does_served : {T E : Type 0} (ranges unsettled : List (ℕ × ℕ)) (spared : ℕ) (past : Past) (after : M) (result : Result T E) → past ≡ noted unsettled spared → Spread ranges unsettled
        → Served inside.inner after result → Writes tells ranges (shown view old) (New after past) result
    does_served ranges unsettled spared past after result is spread served =
        subst (λ (m : M). Writes tells ranges (shown view old) (New m past) result) (sym (served.0 ∙ s.inner))
        (subst (λ (V : View). Writes tells ranges (shown view old) V result) (sym (ap (New old.inner) is ∙ there (view old.inner) unsettled spared))
        (lift_served tells (view old.inner) old.past old.moment old.faults s.count s.before s.below s.wide (only_now old.inner) ranges unsettled spared result (spread_from ranges unsettled spread) served.1))

    pub does_either : {T E : Type 0} (after : M) (result : Result T E) → Called tells view promises [] 0 inside.inner after result ⊎ Served inside.inner after result → Writes tells [] (shown view old) (New after inside.past) result
    does_either after result (inl called) = does_called [] inside.past.unsettled inside.past.spared inside.past after result refl (λ i out was. was) called.does
    does_either after result (inr served) = does_served [] inside.past.unsettled inside.past.spared inside.past after result refl (λ i out was. was) served

    -- the bytes of a spared write
    pub written_served : (at : ℕ) (bytes : List ℕ) (past : Past) → past.unsettled ≡ (at, length bytes) ∷ inside.past.unsettled → put (view inside.inner).content.bytes at bytes ≡ (view inside.inner).content.bytes
        → content_of (view inside.inner) past ≡ written at bytes (content_of (view old.inner) old.past)
    written_served at bytes past is same =
        let ranges : past.unsettled ≡ (at, length bytes) ∷ old.past.unsettled = is ∙ ap (λ (p : Past). (at, length bytes) ∷ p.unsettled) s.noted in
        let stand : (view inside.inner).content.bytes ≡ put (view old.inner).content.bytes at bytes = sym same ∙ ap (λ m. put (view m).content.bytes at bytes) s.inner in
        let made : List ℕ → List (ℕ × ℕ) → Content = λ b u. record { bytes = b; unsettled = u } in
        ap (λ (b : List ℕ). made b past.unsettled) stand ∙ ap (λ (u : List (ℕ × ℕ)). made (put (view old.inner).content.bytes at bytes) u) ranges

    -- the moment below does not fall, and stays at most its own
    pub record Moves (after : M) : Type 0 where
      pub up : (view inside.inner).moment ≤ (view after).moment
      pub low : (view after).moment ≤ inside.moment
      pub size : (view after).size ≡ (view inside.inner).size

    same_moment : (view inside.inner).moment ≡ (view old.inner).moment
    same_moment = ap (λ x. (view x).moment) s.inner

    pub moves_called : {T E : Type 0} (ranges : List (ℕ × ℕ)) (after : M) (result : Result T E) → Writes tells ranges (view inside.inner) (view after) result → Ticks (view inside.inner).moment (view after).moment result → Moves after
    moves_called ranges after result w ticks =
        record { up = omega (arith, same_moment, s.later, s.low, ticks.next); low = omega (arith, same_moment, s.later, s.low, ticks.next, s.moment); size = w.size }

    pub moves_served : {T E : Type 0} (after : M) (result : Result T E) → Served inside.inner after result → Moves after
    moves_served after result served =
        let n : (view after).moment ≡ (view inside.inner).moment = ap (λ x. (view x).moment) served.0 in
        record { up = omega (arith, n); low = omega (arith, same_moment, n, s.later, s.moment); size = ap (λ x. (view x).size) served.0 }

    pub moves_either : {T E : Type 0} (after : M) (result : Result T E) → Called tells view promises [] 0 inside.inner after result ⊎ Served inside.inner after result → Moves after
    moves_either after result (inl called) = moves_called [] after result called.does called.ticks
    moves_either after result (inr served) = moves_served after result served

    pub lies_after : (after : M) (kept next : Kept) (capacity more : ℕ) (unsettled : List (ℕ × ℕ)) (spared : ℕ) (past : Past) → past ≡ noted unsettled spared → Moves after
        → Lies tells (view inside.inner) kept capacity inside.moment inside.past → next.len ≡ kept.len → capacity ≤ more → (IsTrue tells → IsWide (noted unsettled spared) (view after))
        → (IsTrue tells → Holds kept (view inside.inner).content.bytes → Holds next (view after).content.bytes) → Lies tells (view after) next more inside.moment past
    lies_after after kept next capacity more unsettled spared past is moves lies len grows wide holds = subst (λ (p : Past). Lies tells (view after) next more inside.moment p) (sym is) (record {
      count = lies.count;
      before = lies.before;
      below = λ t lt. omega (arith, lies.below t lt, moves.up);
      later = moves.low;
      wide = wide;
      fits = omega (arith, lies.fits, moves.size, len);
      reserved = omega (arith, lies.reserved, len, grows);
      holds = λ told. holds told (lies.holds told);
    })

    -- a call that writes nothing leaves nothing else unsettled below
    pub wide_either : {T E : Type 0} (after : M) (result : Result T E) → Called tells view promises [] 0 inside.inner after result ⊎ Served inside.inner after result
        → (IsTrue tells → IsWide inside.past (view inside.inner)) → IsTrue tells → IsWide inside.past (view after)
    wide_either after result (inl called) wide told i out = (called.does.touched told).unsettled i tt (wide told i out)
    wide_either after result (inr served) wide told i out = subst (λ (m : M). IsOutside (view m).content.unsettled i) (sym served.0) (wide told i out)

    -- a write leaves no more unsettled below than in what is shown
    pub wide_written : {T E : Type 0} (at count : ℕ) (after : M) (result : Result T E) → Writes tells ((at, count) ∷ []) (view inside.inner) (view after) result
        → (IsTrue tells → IsWide inside.past (view inside.inner)) → IsTrue tells → IsWide (noted ((at, count) ∷ inside.past.unsettled) inside.past.spared) (view after)
    wide_written at count after result w wide told i out = (w.touched told).unsettled i (out.0, tt) (wide told i out.1)

    -- no bytes change
    pub holds_either : {T E : Type 0} (kept : Kept) (after : M) (result : Result T E) → Called tells view promises [] 0 inside.inner after result ⊎ Served inside.inner after result
        → IsTrue tells → Holds kept (view inside.inner).content.bytes → Holds kept (view after).content.bytes
    holds_either kept after result (inl called) told = holds_same kept (view inside.inner).content (view after).content (called.does.touched told)
    holds_either kept after result (inr served) told = subst (λ (m : M). Holds kept (view m).content.bytes) (sym served.0)

    low_next : (calls : ℕ) → nat_le (old.moment + (calls + 1)) (2 ^ 64 - 1) ≡ true → nat_le (inside.moment + calls) (2 ^ 64 - 1) ≡ true
    low_next calls is = grind (arith, nat_tests, s.moment, is)

    -- what is promised after a call
    abbrev Promised : M → Past → ℕ → ℕ → Bool
    Promised after past calls more = nat_le (inside.moment + calls) (2 ^ 64 - 1) && promises after (calls + (inside.moment - (view after).moment)) (more + past.spared)

    same_spared : inside.past.spared ≡ old.past.spared
    same_spared = ap (λ (p : Past). p.spared) s.noted

    pub steady_called : {T E : Type 0} (asked : ℕ → ℕ) (past : Past) (after : M) (result : Result T E) → past.spared ≡ inside.past.spared → ((n k : ℕ) → asked n + k ≡ asked (n + k))
        → Ticks (view inside.inner).moment (view after).moment result
        → ((calls more : ℕ) → IsTrue (promises inside.inner (calls + 1) (asked more)) → IsOk result × IsTrue (promises after calls more))
        → (calls more : ℕ) → IsTrue (is_steady view promises old (calls + 1) (asked more)) → IsOk result × IsTrue (Promised after past calls more)
    steady_called asked past after result spared adds ticks law calls more is =
        let d = old.moment - (view old.inner).moment in
        let p = and_parts (nat_le (old.moment + (calls + 1)) (2 ^ 64 - 1)) (promises old.inner (calls + 1 + d) (asked more + old.past.spared)) is in
        let n : calls + 1 + d ≡ calls + d + 1 = omega arith in
        let k : asked more + old.past.spared ≡ asked (more + past.spared) = ap (λ (j : ℕ). asked more + j) (sym (spared ∙ same_spared)) ∙ adds more past.spared in
        let first : promises inside.inner (calls + d + 1) (asked (more + past.spared)) ≡ true =
        ap (λ x. promises x (calls + d + 1) (asked (more + past.spared))) s.inner ∙ ap (λ (j : ℕ). promises old.inner j (asked (more + past.spared))) (sym n) ∙ ap (promises old.inner (calls + 1 + d)) (sym k) ∙ p.1 in
        let q = law (calls + d) (more + past.spared) first in
        let rest : calls + (inside.moment - (view after).moment) ≡ calls + d = omega (arith, same_moment, s.later, s.low, ticks.next, s.moment) in
        (q.0, and_from (nat_le (inside.moment + calls) (2 ^ 64 - 1)) (promises after (calls + (inside.moment - (view after).moment)) (more + past.spared)) (low_next calls p.0) (ap (λ (j : ℕ). promises after j (more + past.spared)) rest ∙ q.1))

    pub steady_served : {T E : Type 0} (asked : ℕ → ℕ) (past : Past) (after : M) (result : Result T E) → ((n : ℕ) → n + past.spared ≡ asked n + inside.past.spared) → Served inside.inner after result
        → (calls more : ℕ) → IsTrue (is_steady view promises old (calls + 1) (asked more)) → IsOk result × IsTrue (Promised after past calls more)
    steady_served asked past after result paid served calls more is =
        let d = old.moment - (view old.inner).moment in
        let p = and_parts (nat_le (old.moment + (calls + 1)) (2 ^ 64 - 1)) (promises old.inner (calls + 1 + d) (asked more + old.past.spared)) is in
        let same : after ≡ old.inner = served.0 ∙ s.inner in
        let m : (view after).moment ≡ (view old.inner).moment = ap (λ x. (view x).moment) same in
        let rest : calls + (inside.moment - (view after).moment) ≡ calls + 1 + d = omega (arith, m, s.later, s.moment) in
        let k : more + past.spared ≡ asked more + old.past.spared = paid more ∙ ap (λ (j : ℕ). asked more + j) same_spared in (
          served.1,
          and_from (nat_le (inside.moment + calls) (2 ^ 64 - 1)) (promises after (calls + (inside.moment - (view after).moment)) (more + past.spared)) (low_next calls p.0)
              (ap (λ (j : ℕ). promises after j (more + past.spared)) rest ∙ ap (λ x. promises x (calls + 1 + d) (more + past.spared)) same ∙ ap (promises old.inner (calls + 1 + d)) k ∙ p.1),
        )

    pub steady_either : {T E : Type 0} (after : M) (result : Result T E) → Called tells view promises [] 0 inside.inner after result ⊎ Served inside.inner after result
        → (calls more : ℕ) → IsTrue (is_steady view promises old (calls + 1) more) → IsOk result × IsTrue (Promised after inside.past calls more)
    steady_either after result (inl called) calls more is =
        let none : more ≡ 0 + more = omega arith in
        steady_called (λ n. 0 + n) inside.past after result refl (λ n k. omega arith) called.ticks called.steady calls more (subst (λ (k : ℕ). IsTrue (is_steady view promises old (calls + 1) k)) none is)
    steady_either after result (inr served) calls more is = steady_served (λ n. n) inside.past after result (λ n. refl) served calls more is
