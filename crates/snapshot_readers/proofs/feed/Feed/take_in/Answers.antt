use Rattle.std.proofs.Common.{sym, ◌∙◌, ap, drop, Some}
use Rattle.snapshot_readers.specs.Book.{word_of}
use Rattle.snapshot_readers.proofs.Leading.{leads_more}
use Rattle.snapshot_readers.proofs.feed.Feed.take_in.Goals as goal

pub invariant_of-feed-2 : goal.invariant_of-feed-2
invariant_of-feed-2 g c =
    let self = c.args.self in
    let book = c.after-fed.ensures.book in
    let now = c.append_writes.new.writer in
    record {
      word_is = self.word_is ∙ ap word_of (sym book);
      heard_is = self.heard_is ∙ sym book;
      leads = rw c.in-Ok.ensures.desk (leads_more self.writer.desk.shown.value (drop self.writer.behind self.writer.log.items) (drop now.behind now.log.items) self.fed c.after-fed.result c.args.dones.now self.leads book c.after-fed.ensures.log c.in-Ok.ensures.ok);
      knows = rw c.in-Ok.ensures.desk (self.knows ∙ ap Some (sym book));
      counted = rw c.in-Ok.ensures.desk self.counted;
    }
