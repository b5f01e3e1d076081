use Rattle.std.proofs.Common.{ap, length}
use Rattle.page_store.specs.Shown.{Shown, pages_of}
use Rattle.index_pages.proofs.Sizes.{page_read}
use Rattle.index_pages.proofs.Courses.{reads_one, read_cause, read_dead}
use Rattle.index_pages.proofs.fetch.fetch_page.Goals as goal

pub returns-clause-bytes : goal.returns-clause-bytes
returns-clause-bytes g c = λ told. page_read c.read.result (g.S.EawStore.view c.args.pages.now.store).state.bytes c.read.new.buf c.args.page _ c.told-bytes (c.read.ensures.bytes told)

pub returns-clause-reads : goal.returns-clause-reads
returns-clause-reads g c =
    let view = g.S.EawStore.view in
    let calls = g.S.EawStore.calls in
    let old = c.args.pages.now in
    let new = c.read.new.self in
    reads_one g.S.EawStore.tells (calls old.store) (calls new.store) (view old.store) (view new.store) c.args.page c.read.new.buf c.read.result (length c.args.bytes.now) c.told-bytes c.requires
    (read_cause g.S.EawStore.tells (g.S.EawStore.opens (view old.store).shape) (pages_of (view old.store) old) (pages_of (view new.store) new) c.read.result c.read.ensures.does)
    c.read.ensures.costs c.read.ensures.steady
    (λ told. page_read c.read.result (view old.store).state.bytes c.read.new.buf c.args.page _ c.told-bytes (c.read.ensures.bytes told))
    (λ dead. let same = read_dead c.read.result c.read.ensures.refused dead in (ap (λ (p : Shown g.row.S.Denot). (view p.store).moment) same, λ command. ap (λ (p : Shown g.row.S.Denot). calls p.store command) same))
