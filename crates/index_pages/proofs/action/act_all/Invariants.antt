use Rattle.std.proofs.Common.{take, drop}
use Rattle.page_store.specs.Shown.{pages_of}
use Rattle.index_pages.specs.Parts.{pages_named, parts_named}
use Rattle.index_pages.proofs.Acting.{Acting}
use Rattle.index_pages.proofs.Running.{Running}
use Rattle.index_pages.proofs.action.act_all.Given as goal

-- the parts written so far
abbrev pub invariant-loop-part : goal.invariant-loop-part
invariant-loop-part g l = record {
  acting : Acting g.S.EawStore.tells (g.S.EawStore.opens (g.S.EawStore.view l.fn.pages.store).shape) l.tid (pages_of (g.S.EawStore.view l.fn.pages.store) l.fn.pages)
      (pages_of (g.S.EawStore.view l.pages.store) l.pages) (parts_named (take l.part-index l.parts)) (pages_named (drop l.part-index l.parts));
  running : Running g.S.EawStore.tells g.S.EawStore.view g.S.EawStore.calls l.tid (parts_named (take l.part-index l.parts)) (g.S.EawStore.view l.fn.pages.store) (g.S.EawStore.view l.pages.store);
}
