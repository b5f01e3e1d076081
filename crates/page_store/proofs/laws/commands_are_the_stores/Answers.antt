use Rattle.page_store.proofs.Device.{device_does, device_does_ranges}
use Rattle.page_store.proofs.Ordered.{device_ready}
use Rattle.page_store.proofs.Outline.{outline_does}
use Rattle.page_store.proofs.laws.commands_are_the_stores.Goals as goal

pub returns-clause-state : goal.returns-clause-state
returns-clause-state c command s kept allowed = device_does c.args.shape.now command s kept allowed

pub returns-clause-ranges : goal.returns-clause-ranges
returns-clause-ranges c command o allowed = device_does_ranges c.args.shape.now command o allowed

pub returns-clause-outlined : goal.returns-clause-outlined
returns-clause-outlined c command s kept allowed = outline_does c.args.shape.now command s kept allowed

pub returns-clause-ready : goal.returns-clause-ready
returns-clause-ready c command o kept allowed = device_ready c.args.shape.now o kept command allowed
