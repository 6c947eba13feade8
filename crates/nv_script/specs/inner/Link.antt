-- How a session begins.
use Rattle.std.specs.Prelude.{◌≡◌, length, replicate}
use Rattle.nv_driver.specs.inner.Linked.{next_cids_of}
use Rattle.nv_model.specs.State.{State}
use Rattle.nv_script.specs.declared.session.Session.{Session}

-- a session before the first line
pub record IsFirst (s : State) (session : Session) : Type 0 where
  pub next : next_cids_of session.driver ≡ replicate (length s.controllers) 0
  pub number : session.number ≡ 0
  pub status : session.status ≡ 0
