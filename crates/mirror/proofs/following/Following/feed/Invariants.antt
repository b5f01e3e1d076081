use Rattle.std.proofs.Common.{◌≡◌, take}
use Rattle.std.specs.Prelude.{IsTrue}
use Rattle.eaw_face.specs.StoreView.{LeavesOnly}
use Rattle.mirror.specs.Reading.{LeadTo}
use Rattle.mirror.specs.Following.{stand, Follows, LeavesFirst}
use Rattle.mirror.proofs.following.Following.feed.Given as goal

abbrev pub invariant-loop-byte : goal.invariant-loop-byte
invariant-loop-byte g l = record {
  follows : Follows g.S.EawStore.tells (stand (g.S.EawStore.view l.fn.self.store) l.fn.self.applied l.fn.self.reader.bytes.items) (stand (g.S.EawStore.view l.self.store) l.self.applied l.self.reader.bytes.items) (take l.byte-index l.piece);
  leads : LeadTo l.self.reader.shape l.self.reader.place l.self.reader.bytes.items;
  shape : l.self.reader.shape ≡ (g.S.EawStore.view l.self.store).shape;
  moments : IsTrue g.S.EawStore.tells → LeavesOnly (LeavesFirst g.S.EawStore.opens (stand (g.S.EawStore.view l.fn.self.store) l.fn.self.applied l.fn.self.reader.bytes.items) (take l.byte-index l.piece)) (g.S.EawStore.view l.fn.self.store) (g.S.EawStore.view l.self.store);
}
