use Rattle.std.proofs.Common.{List, length, arith, sym, ap, ◌∙◌}
use Rattle.std.proofs.lemmas.List.{length-map}
use Rattle.std.proofs.lemmas.Bool.{eqb-false}
use Rattle.history.specs.declared.key.Key.{Key}
use Rattle.reader_work.specs.declared.reading.ReadWorker.{ReadWorker}
use Rattle.reader_work.proofs.readership.open_readership.Goals as goal

pub returns-in-Ok-clause-open : goal.returns-in-Ok-clause-open
returns-in-Ok-clause-open g c =
    let filled = eqb-false _ 0 (sym c.is_empty.ensures ∙ c.if-is_empty.false) in
    let long = sym (length-map c.in-Ok.workers.items (λ (w : ReadWorker). w.keys)) ∙ ap (λ (l : List (List Key)). length l) c.in-Ok.ensures.keys in record {
      none = c.in_ok-feed.ensures.feed.1;
      ready = c.in-Ok.ensures.ready _ _ c.in_ok-feed.ensures.readers.1;
      some = omega (arith, long, filled, c.args.asks.ok.0);
    }
