use denote.Param.Send.{IsSync, part_keyless}
use Rattle.bpf_verify.specs.contracts.ghost_states.GhostStates.{the_row}
use Rattle.bpf_verify.proofs.ghost_states.GhostStates.TheSendSync.Send.{send}

pub sync : IsSync the_row
sync = record { shared = λ d b o κ q. part_keyless the_row send q d b o }
