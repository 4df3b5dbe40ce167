use denote.Param.Send.{sendable}
use Rattle.worker_pool.proofs.crew.fn.set_to_work.share+FnOnce.call_once.Goals as goal

pub share-requires : goal.share-requires
share-requires g c = search sendable depth 20
