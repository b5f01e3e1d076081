use Rattle.std.proofs.Common.{arith, ap, sym, ◌∙◌, ◌≡◌, ◌+◌, ◌-◌, ◌<◌, ◌≤◌, min, [], ◌++◌, length, take, drop, ℕ, List}
use Rattle.std.proofs.lemmas.List.{take_at, take-append-drop, take_rest, drop-drop, length-take-le, length-take, length-drop, length-append, nil_from_length, drop_at}
use Rattle.outside.proofs.memory_source.MemorySourceSource.read.Goals as goal

-- the n bytes from a place on were copied to the front of a buffer
took : (bytes copied rest : List ℕ) (at n : ℕ) → copied ≡ take n (take (length bytes - at) (drop at bytes))
    → n ≡ min (length (take (length bytes - at) (drop at bytes))) (length (copied ++ rest))
    → (drop at bytes ≡ take n (copied ++ rest) ++ drop (at + n) bytes) × (n ≡ 0 → 0 < length (copied ++ rest) → drop (at + n) bytes ≡ [])
took bytes copied rest at n is count =
    let whole : take (length bytes - at) (drop at bytes) ≡ drop at bytes = take_rest bytes at in
    let front : copied ≡ take n (drop at bytes) = is ∙ ap (take n) whole in
    let short : n ≤ length (drop at bytes) = omega (arith, count, ap length whole) in
    let size : length copied ≡ n = ap length front ∙ length-take-le n _ short in (
      sym (ap (λ x. x ++ drop (at + n) bytes) (take_at copied rest n size ∙ front)
          ∙ ap (λ x. take n (drop at bytes) ++ x) (sym (drop-drop n at bytes)) ∙ take-append-drop n (drop at bytes)),
      λ none room. nil_from_length _ (omega (arith, count, ap length whole, length-drop (at + n) bytes, length-drop at bytes)),
    )

pub returns-clause-bytes : goal.returns-clause-bytes
returns-clause-bytes c =
    let same = c.deref-2.ensures.value in
    rw (← c.self.view_is) (took c.self.inside.bytes.items c.copy_from_slice.new.self (drop c.min-count.result c.args.buf.now) c.self.inside.at c.min-count.result
    (rw same at c.copy_from_slice.ensures.after)
    (omega (arith, rw same at c.min-count.ensures, c.copy_from_slice.ensures.len, length-take c.min-count.result c.args.buf.now, length-drop c.min-count.result c.args.buf.now, length-append c.copy_from_slice.new.self (drop c.min-count.result c.args.buf.now))))

pub returns-clause-behind : goal.returns-clause-behind
returns-clause-behind c = drop_at c.copy_from_slice.new.self (drop c.min-count.result c.args.buf.now) c.min-count.result (omega (arith, c.min-count.ensures, c.copy_from_slice.ensures.len, length-take c.min-count.result c.args.buf.now))
