use Rattle.flow_regulations.proofs.PutBack.{AreBack}
use Rattle.flow_regulations.proofs.regulations.put_back_in.Given as goal

abbrev pub invariant-loop-index : goal.invariant-loop-index
invariant-loop-index g l = AreBack l.number l.index l.places l.initial.regulations l.regulations
