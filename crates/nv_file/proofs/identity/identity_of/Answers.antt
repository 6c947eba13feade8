use Rattle.nv_file.proofs.identity.identity_of.Goals as goal

pub returns-clause-sound : goal.returns-clause-sound
returns-clause-sound c = record {
  cntlid = c.in_ok-cntlid.ensures.range.1;
  sn = c.in_ok-sn.ensures.sound;
  mn = c.in_ok-mn.ensures.sound;
  fr = c.in_ok-fr.ensures.sound;
  numbers = c.in_ok-numbers.ensures.sound;
}
