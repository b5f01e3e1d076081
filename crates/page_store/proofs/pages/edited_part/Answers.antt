use Rattle.std.proofs.Common.{◌≡◌, ℕ, ◌-◌, true, sym, ◌∙◌, ap, arith}
use Rattle.std.proofs.lemmas.Bool.{false≢true}
use Rattle.eaw_face.specs.State.{listed, range_at}
use Rattle.page_store.specs.Edit.{meet}
use Rattle.page_store.proofs.Editing.{placed_at, data_small, ended, found, met, passed}
use Rattle.page_store.proofs.pages.edited_part.Goals as goal

pub loop-pos-init : goal.loop-pos-init
loop-pos-init g c = record { within = omega (arith, c.log_len-pos.ensures); none_met = λ k le lt. absurd (omega (arith, le, lt, c.log_len-pos.ensures)) }

pub meet-requires-clause-second : goal.meet-requires-clause-second
meet-requires-clause-second g c =
    let view = g.S.EawStore.view c.args.store.now in
    let q = c.loop-pos.pos - 1 in
    let placed = placed_at view.shape (listed (view.ranges c.args.tid)) q (g.met.S.EawStore.placed c.args.store.now c.args.tid) (omega (arith, c.loop-pos.invariant.within)) in
    let small = data_small view.shape (g.met.S.EawStore.shaped c.args.store.now) in
    let start = ap (λ (p : ℕ × ℕ). p.0) c.part_range-start.ensures in
    let count = c.from-count.ensures ∙ ap (λ (p : ℕ × ℕ). p.1) c.part_range-start.ensures in
    omega (arith, placed.inside, small, start, count)

pub returns-then-is_same : goal.returns-then-is_same
returns-then-is_same g c =
    let ranges = listed ((g.S.EawStore.view c.args.store.now).ranges c.args.tid) in
    let same = c.is_same.ensures.0 c.if-is_same.true in
    let here : range_at ranges (c.loop-pos.pos - 1) ≡ (c.args.addr, c.args.len) = sym c.part_range-start.ensures ∙ (λ i. (same.0 i, (sym c.from-count.ensures ∙ same.1) i)) in
    found c.args.floor c.args.addr c.args.len ranges c.requires.some c.loop-pos.pos c.loop-pos.invariant.none_met (c.loop-pos.pos - 1) (omega arith) (omega (arith, c.loop-pos.invariant.within)) (omega arith) here

pub returns-then-meet : goal.returns-then-meet
returns-then-meet g c =
    let ranges = listed ((g.S.EawStore.view c.args.store.now).ranges c.args.tid) in
    let q = c.loop-pos.pos - 1 in
    let part : range_at ranges (c.loop-pos.pos - 1) ≡ (c.part_range-start.result.0, c.from-count.result) = sym c.part_range-start.ensures ∙ (λ i. (c.part_range-start.result.0, sym c.from-count.ensures i)) in
    let meets : meet (c.args.addr, c.args.len) (range_at ranges (c.loop-pos.pos - 1)) ≡ true = ap (meet (c.args.addr, c.args.len)) part ∙ sym c.meet.ensures ∙ c.if-meet.true in
    met c.args.floor c.args.addr c.args.len ranges c.requires.some c.loop-pos.pos c.loop-pos.invariant.none_met q (omega arith) (omega (arith, c.loop-pos.invariant.within))
    (λ is. let both = sym part ∙ is in false≢true (sym c.if-is_same.false ∙ c.is_same.ensures.1 (ap (λ (p : ℕ × ℕ). p.0) both, ap (λ (p : ℕ × ℕ). p.1) both)))
    meets

pub loop-pos-preserved : goal.loop-pos-preserved
loop-pos-preserved g c =
    let ranges = listed ((g.S.EawStore.view c.args.store.now).ranges c.args.tid) in
    let part : range_at ranges (c.loop-pos.pos - 1) ≡ (c.part_range-start.result.0, c.from-count.result) = sym c.part_range-start.ensures ∙ (λ i. (c.part_range-start.result.0, sym c.from-count.ensures i)) in
    record {
      within = omega (arith, c.loop-pos.invariant.within);
      none_met = passed c.args.floor c.args.addr c.args.len ranges c.requires.some c.loop-pos.pos c.loop-pos.invariant.none_met (c.loop-pos.pos - 1) (omega arith) (omega (arith, c.loop-pos.invariant.within))
          (ap (meet (c.args.addr, c.args.len)) part ∙ sym c.meet.ensures ∙ c.if-meet.false);
    }

pub returns : goal.returns
returns g c = ended c.args.floor c.args.addr c.args.len _ c.requires.some c.loop-pos.pos c.loop-pos.invariant.none_met (omega arith)
