-- The live mark goes, and the padding stays.
use Rattle.in_place.proofs.Changed.{dropped_is}
use Rattle.in_place.proofs.bytes.ArrayU8SIZEFacilityStore.drop_object.Goals as goal

pub returns : goal.returns
returns c = dropped_is c.args.self.now _ c.args.t c.put.ensures
