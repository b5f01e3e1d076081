-- A list that exists only in proofs owns nothing, so it may go to another thread, whatever it is a list of.
use denote.RattleType.{RattleType}
use denote.Param.Send.{IsSend}
use Rattle.ghost_notes.specs.contracts.notes.Notes.{the_row}

pub send : (T : RattleType) → IsSend (the_row T)
send T = record { owned = λ n vs. ((λ vss. (tt, ((λ uss. (tt, tt)), tt))), tt); leaving = λ k d w. tt }
