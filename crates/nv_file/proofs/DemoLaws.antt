-- The file of the code is the one that the definitions state.
use Rattle.std.proofs.Common.{◌≡◌, refl}
use Rattle.nv_file.specs.Demo.{demo_text}
use Rattle.nv_file.specs.declared.demo.TheConstants.{DEMO}

-- the demo file of the code is demo_text
pub demo_is : DEMO.now ≡ demo_text
unfolding demo_text
demo_is = refl
