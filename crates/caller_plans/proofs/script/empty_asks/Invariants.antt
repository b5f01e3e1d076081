use Rattle.std.proofs.Common.{◌≡◌, replicate, []}
use Rattle.caller_plans.proofs.script.empty_asks.Given as goal

abbrev pub invariant-loop-reader : goal.invariant-loop-reader
invariant-loop-reader l = l.asks.items ≡ replicate l._reader []
