use Rattle.index_pages.proofs.Tiling.{in_a_piece, in_one_piece, found_in_piece, inserted_in_piece, next_in_piece}
use Rattle.index_pages.proofs.laws.pieces_answer.Goals as goal

pub returns-clause-some : goal.returns-clause-some
returns-clause-some c = in_a_piece

pub returns-clause-one : goal.returns-clause-one
returns-clause-one c = in_one_piece

pub returns-clause-found : goal.returns-clause-found
returns-clause-found c = found_in_piece

pub returns-clause-inserted : goal.returns-clause-inserted
returns-clause-inserted c = inserted_in_piece

pub returns-clause-next : goal.returns-clause-next
returns-clause-next c = next_in_piece
