-- Pairs that rise, of which one is taken out.
pub use Rattle.index_pages.proofs.Removing.{removed-below, removed-left, removed-right, removed_local, removed-rises, given_removed, length-removed, removed-one, found-removed, alone_is}
