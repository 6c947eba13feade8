-- How each record is shown: what no public contract reaches.
use Rattle.std.specs.Prelude.{ℕ, ◌+◌, length}
use Rattle.nv_layout.specs.declared.id_ctrl.IdCtrl.{IdCtrl}

-- the length of its texts in bytes
abbrev pub texts_length : IdCtrl → ℕ
texts_length c = length c.sn + (length c.mn + (length c.fr + length c.subnqn))
