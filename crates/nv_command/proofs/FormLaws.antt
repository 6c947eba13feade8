-- What the form of a command says about its data.
use Rattle.std.proofs.Common.{◌≡◌, ℕ, ◌==◌, Bool, true, arith, rules}
use Rattle.std.proofs.lemmas.Bool.Decides.{nat_tests}
use Rattle.nv_command.specs.Command.{bytes_to_host, transfer_by}
use Rattle.nv_command.specs.Form.{form_of}
use Rattle.nv_command.specs.Logs.{IsSendable}
use Rattle.nv_command.proofs.ReplySizes.{IsSizeOf}
use Rattle.nv_command.specs.declared.command.Command.{Command}
use Rattle.nv_command.specs.declared.transfer.Form.{Form}
use Rattle.nv_command.specs.declared.transfer.Transfer.{Transfer}
use Rattle.nv_command.specs.declared.transfer.Transfer.TheVariants.{NoData, ToHost, FromHost}

-- the reply is read from as many bytes as the command says
pub size_of_reply : (k : Command) (f : Form) (size : ℕ) → f ≡ form_of k
    → size ≡ bytes_to_host (transfer_by k) → IsSendable k → IsSizeOf f.reply size
size_of_reply k f size is len sends = search rules

-- there is no data, or a page; this holds for each command that reads no log
abbrev pub at_most_a_page : Transfer → Bool
at_most_a_page NoData = true
at_most_a_page (ToHost n) = n == 4096
at_most_a_page (FromHost n) = n == 4096

-- if the test for a page's length is true, the length is 4,096
pub a_page : (n : ℕ) → (n == 4096) ≡ true → n ≡ 4096
a_page n is = grind (arith, nat_tests, is)
