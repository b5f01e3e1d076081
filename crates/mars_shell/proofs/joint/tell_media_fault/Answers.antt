use Rattle.texts.proofs.Appending.{wrote_front}
use Rattle.mars_shell.proofs.joint.tell_media_fault.Goals as goal

pub returns-in-Ok : goal.returns-in-Ok
returns-in-Ok g c = wrote_front c.put_fault_text.result c.put_fault_text.ensures

pub returns-in-Err : goal.returns-in-Err
returns-in-Err g c = wrote_front c.put_fault_text.result c.put_fault_text.ensures
