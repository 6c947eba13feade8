-- The identity of a controller in the code as a value.
use Rattle.std.specs.Prelude.{string_bytes}
use Rattle.nv_model.specs.declared.identity.Identity as code
use Rattle.nv_model.specs.State.{Identity}

-- the value of an identity in the code
abbrev pub identity_view : code.Identity → Identity
identity_view i = record {
  cntlid = i.cntlid;
  sn = string_bytes i.sn;
  mn = string_bytes i.mn;
  fr = string_bytes i.fr;
  numbers = i.numbers;
  crypto_erase = i.crypto_erase;
}
