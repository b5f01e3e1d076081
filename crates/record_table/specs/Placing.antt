-- The place that a look-up hands to the insertion behind it.
use Rattle.std.specs.Prelude.{Option, Some, None}
use Rattle.page_store.specs.declared.leaf_page.LeafPage.{LeafPage}
use Rattle.page_store.specs.declared.leaf_page.Sought.{Sought}
use Rattle.page_store.specs.declared.leaf_page.Sought.TheVariants.{Place}

-- the place where the key goes, if it is known
abbrev pub place_sought : Sought → Option LeafPage
place_sought (Place leaf) = Some leaf
place_sought _ = None
