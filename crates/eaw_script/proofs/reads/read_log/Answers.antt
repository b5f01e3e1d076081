use Rattle.std.proofs.Common.{◌≡◌, inr, ℕ, ◌<◌, ◌≤◌, List, length, take, sym, ap, subst, ◌∙◌, arith, rules}
use Rattle.array_shape.specs.declared.shape.Shape.{Shape}
use Rattle.eaw_face.specs.State.{State, listed, range_at, part_at}
use Rattle.eaw_face.specs.StoreView.{LeavesOnly, ArePlaced}
use Rattle.eaw_face.specs.Does.{IsEither}
use Rattle.script_text.specs.declared.answer.Answer.TheVariants.{Part}
use Rattle.eaw_script.proofs.Performing.{part_len}
use Rattle.eaw_script.proofs.reads.read_log.Goals as goal

-- the part that was read is no longer than the buffer
short : (shape : Shape) (ranges : List (ℕ × ℕ)) (pos addr len : ℕ) → ArePlaced shape ranges → pos < length ranges → (addr, len) ≡ range_at ranges pos → len ≤ 512
short shape ranges pos addr len placed there is = subst (λ (n : ℕ). n ≤ 512) (sym (ap (λ (p : ℕ × ℕ). p.1) is)) (part_len shape ranges pos placed there)

pub shared_ref_as_front-of : goal.shared_ref_as_front-of
shared_ref_as_front-of g c =
    let there : c.args.pos < length (listed ((g.S.EawStore.view c.args.store.now).ranges c.args.number)) = omega (arith, c.if-pos-log_len.false, c.log_len.ensures) in
    omega (arith, short _ _ c.args.pos c.in-Ok.addr c.in-Ok.len (g.met.S.EawStore.placed c.args.store.now c.args.number) there c.in-Ok.ensures.part, c.from.ensures, c.log_read.array_long)

pub returns-in-Ok : goal.returns-in-Ok
returns-in-Ok g c =
    let s = g.S.EawStore in
    let old = s.view c.args.store.now in
    let t = c.args.number in
    let pos = c.args.pos in
    let does = c.in-Ok.ensures.does in
    let there : pos < length (listed (old.ranges t)) = omega (arith, c.if-pos-log_len.false, c.log_len.ensures) in
    let its = c.in-Ok.ensures.part in
    record {
      shape = does.shape;
      depth = does.depth;
      cause = record { later = omega (arith, does.kept); failed = tt; kept = does.kept };
      alive = does.done.alive;
      answers = λ told. inr (
        (search rules, (there, (tt, λ g lt. omega arith))),
        ap (λ (xs : List ℕ). Part c.in-Ok.addr xs) (c.of.ensures ∙ ap (λ n. take n c.log_read.new.buf) c.from.ensures ∙ c.in-Ok.ensures.bytes told)
            ∙ ap (λ (addr : ℕ). Part addr (part_at (listed (old.state.logs t)) pos).1) (ap (λ (p : ℕ × ℕ). p.0) its),
        does.done.state told,
      );
      fails = tt;
      time = λ told. subst (λ (d : State). LeavesOnly (IsEither (s.opens old.shape) old.state.bytes d.bytes) old (s.view c.log_read.new.self)) (sym (does.done.state told)) (does.time told c.requires.alive);
      mirrors = does.mirrors;
    }
