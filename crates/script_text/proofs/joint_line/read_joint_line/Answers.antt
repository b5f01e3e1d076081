use Rattle.script_text.proofs.joint_line.read_joint_line.Goals as goal

pub returns-in-None : goal.returns-in-None
returns-in-None c = (c.in-Bad.ensures.0, c.in-Bad.ensures.1, λ reader key is. c.in-None.ensures (reader, key) is)
