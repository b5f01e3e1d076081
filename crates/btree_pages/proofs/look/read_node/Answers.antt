use Rattle.btree_pages.proofs.look.read_node.Goals as goal

pub fetch_page-requires : goal.fetch_page-requires
fetch_page-requires g c = c.requires
