-- A removal that also frees the slot of the pair.
pub use Rattle.index_pages.proofs.Freeing.{one_key, carries_one, found_given, given_others, with_slot, with_size, with_page, with_next, with_keeps}
