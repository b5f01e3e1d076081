use Rattle.std.proofs.Common.{◌≡◌, ℕ, List, drop, length, Result, arith, ap, subst, ◌∙◌}
use Rattle.std.specs.Prelude.{IfOk}
use Rattle.history.specs.declared.transaction.Done.{Done}
use Rattle.mars_manager.specs.declared.reading.NotCopied.{NotCopied}
use Rattle.std.proofs.lemmas.List.{length-append}
use Rattle.snapshot_readers.specs.Feeds.{fed, fed_book, told, told_book, published}
use Rattle.sample_threads.proofs.Fed.{fed_behind}
use Rattle.sample_threads.proofs.readers.publish_news.Goals as goal

pub returns-in-Ok-Ok-clause-behind : goal.returns-in-Ok-Ok-clause-behind
returns-in-Ok-Ok-clause-behind g c =
    fed_behind (λ receipt. told_book receipt ≡ fed_book c.args.feed.now) (λ receipt. published c.feed.new.self ≡ told receipt) (published c.feed.new.self ≡ published c.args.feed.now) c.feed.result told (fed c.args.feed.now) (fed c.feed.new.self) c.since.new.pass.known.seen c.as_slice.result.now
    (let grown = c.since.ensures.seen in omega (arith, c.requires.behind, ap length grown.is, length-append c.args.pass.now.known.seen grown.more))
    (c.as_slice.ensures ∙ subst (λ (r : Result (List Done) NotCopied). IfOk r (λ history. history ≡ drop c.fed-fed.result c.since.new.pass.known.seen)) c.in-Ok-Ok.field-0-is c.in-Ok-Ok.ensures.copy ∙ ap (λ (n : ℕ). drop n c.since.new.pass.known.seen) c.fed-fed.ensures)
    c.feed.ensures.ok c.feed.ensures.err
