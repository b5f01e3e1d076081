use Rattle.std.proofs.Common.{◌≡◌, ◌+◌, ◌-◌, ◌/◌, ◌≤◌, ℕ, Bool, true, false, not, List, length, take, drop, refl, sym, ◌∙◌, ap, arith, true≢false}
use Rattle.std.proofs.lemmas.Slice.Eq.{bytes_eq-Decides}
use Rattle.mars_base.specs.Bytes.{range}
use Rattle.resident_media.proofs.Spots.{same_on, same_part}
use Rattle.resident_media.proofs.room.is_there.Goals as goal

-- what `!=` said
differ : (b : Bool) → true ≡ not b → b ≡ true → ⊥
differ b is e = true≢false (is ∙ ap not e)

agree : (b : Bool) → false ≡ not b → b ≡ true
agree true is = refl
agree false is = absurd (true≢false (sym is))

-- the part of a list from a place to a place
cut : (xs : List ℕ) (from n m : ℕ) → m ≡ n → take m (drop from xs) ≡ range xs from n
cut xs from n m is = ap (λ (k : ℕ). take k (drop from xs)) is

pub returns-then-ne : goal.returns-then-ne
returns-then-ne c =
    let at = c.args.at in
    let done = c.loop-done.done in
    let part = c.min-part.result in
    let from = c.spot-from.result in
    let room = c.args.room.now in
    let bytes = c.args.bytes.now in
    let few : from + part ≤ length room = omega (arith, c.requires.room ((at + done) / 16384), c.requires.placed (at + done) (omega arith) (omega arith), c.spot-from.ensures, c.min-part.ensures) in
    let xs = take (from + part - from) (drop from room) in
    let ys = take (done + part - done) (drop done bytes) in (
      λ no. absurd (true≢false (sym no)),
      λ all.
          let same : range room from part ≡ range bytes done part = same_part at done part from room c.args.places.now bytes few (omega arith) c.spot-from.ensures (omega arith) all in
          let equal : xs ≡ ys = cut room from part (from + part - from) (omega arith) ∙ same ∙ sym (cut bytes done part (done + part - done) (omega arith)) in
          absurd (differ _ c.if-ne.ensures ((bytes_eq-Decides xs ys).1 equal)),
    )

pub loop-done-preserved : goal.loop-done-preserved
loop-done-preserved c =
    let at = c.args.at in
    let done = c.loop-done.done in
    let part = c.min-part.result in
    let from = c.spot-from.result in
    let room = c.args.room.now in
    let bytes = c.args.bytes.now in
    let few : from + part ≤ length room = omega (arith, c.requires.room ((at + done) / 16384), c.requires.placed (at + done) (omega arith) (omega arith), c.spot-from.ensures, c.min-part.ensures) in
    let xs = take (from + part - from) (drop from room) in
    let ys = take (done + part - done) (drop done bytes) in
    let equal : xs ≡ ys = (bytes_eq-Decides xs ys).0 (agree _ c.if-ne.ensures) in
    let same : range room from part ≡ range bytes done part = sym (cut room from part (from + part - from) (omega arith)) ∙ equal ∙ cut bytes done part (done + part - done) (omega arith) in
    same_on at done part from room c.args.places.now bytes few (omega arith) c.spot-from.ensures (omega arith) same c.loop-done.invariant
