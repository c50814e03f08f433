use Rattle.std.proofs.Common.{refl}
use Rattle.faults.proofs.PassedOn.{passed_on}
use Rattle.engine.proofs.Composing.{kept_trans}
use Rattle.engine.proofs.LeafRules.{none_made, rest_stops, first_put, first_formed}
use Rattle.engine.proofs.merging.+merge.Goals as goal

pub returns-in_default-clause-done : goal.returns-in_default-clause-done
returns-in_default-clause-done g t c = none_made c.in_default.ensures refl c.requires.good

pub returns-in_err-rest-clause-done : goal.returns-in_err-rest-clause-done
returns-in_err-rest-clause-done g t c = rest_stops c.in-Some.ensures.whole c.requires.good c.in_err-rest.ensures.done (passed_on c.from_residual.ensures.1)

pub put_on-requires-clause-formed : goal.put_on-requires-clause-formed
put_on-requires-clause-formed g t c = first_formed c.in-Some.ensures.whole c.requires.formed c.in_ok-rest.ensures.done

pub returns-clause-done : goal.returns-clause-done
returns-clause-done g t c = first_put c.in-Some.ensures.whole c.requires.good c.in_ok-rest.ensures.done c.in_ok-rest.ensures.kept c.put_on.ensures.done

pub returns-clause-kept : goal.returns-clause-kept
returns-clause-kept g t c = kept_trans c.merge.ensures.kept c.put_on.ensures.kept
