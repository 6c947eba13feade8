-- The subsystem file that is used if none is given.
use Rattle.std.specs.Prelude.{ℕ, List, ◌++◌, codes}

-- the text of the built-in subsystem file
unfoldable pub demo_text : List ℕ
demo_text =
    codes "version = 1\nnn = 4\ntnvmcap = 10485760\nmc = 1\nsubnqn = \"nqn.2014-08.org.example:demo\"\n\n"
    ++ codes "[[format]]\nlbads = 9\n\n"
    ++ codes "[[format]]\nlbads = 12\n\n"
    ++ codes "[[format]]\nlbads = 9\nms = 8\nrp = 1\n\n"
    ++ codes "[[controller]]\ncntlid = 0\nsn = \"S0\"\nmn = \"Demo Controller\"\nfr = \"1.0\"\nelpe = 3\nvwc = 7\n\n"
    ++ codes "[[controller.feature]]\nfid = 6\ndefault = 1\nsaveable = true\n\n"
    ++ codes "[[controller]]\ncntlid = 1\nsn = \"S1\"\nmn = \"Demo Controller\"\nfr = \"1.0\"\nelpe = 0\n\n"
    ++ codes "[[namespace]]\nnsid = 1\nbytes = 1048576\nformat = 0\nshared = true\ncontrollers = [0]\n\n"
    ++ codes "[[namespace]]\nnsid = 3\nbytes = 4608\nformat = 0\ncontrollers = [0]\n"
