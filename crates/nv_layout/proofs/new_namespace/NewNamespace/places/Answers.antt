use Rattle.std.proofs.Common.{refl}
use Rattle.nv_layout.specs.IdNs.{id_ns_of_bytes}
use Rattle.nv_layout.specs.NewNamespace.{new_namespace_of_bytes}
use Rattle.nv_layout.proofs.new_namespace.NewNamespace.places.Goals as goal

pub returns : goal.returns
unfolding id_ns_of_bytes new_namespace_of_bytes
returns c bytes = refl
