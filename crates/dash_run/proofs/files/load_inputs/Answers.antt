use Rattle.dash_run.specs.Inputs.{image_file, of_image}
use Rattle.dash_run.specs.Output.{request_of}
use Rattle.dash_run.proofs.Printing.{on_err}
use Rattle.dash_run.proofs.Loading.{image_begun, image_fault}
use Rattle.dash_run.proofs.files.load_inputs.Goals as goal

pub load_file-requires : goal.load_file-requires
load_file-requires g c = c.requires (image_file (request_of c.args.command.now)) of_image

pub returns-in_err-bytes-clause-begun : goal.returns-in_err-bytes-clause-begun
returns-in_err-bytes-clause-begun g c = on_err _ (image_begun _ _ (request_of c.args.command.now) c.load_file.ensures.calls)

pub returns-in-NoBytes-clause-loaded : goal.returns-in-NoBytes-clause-loaded
returns-in-NoBytes-clause-loaded g c =
    let file = rw c.in-NoBytes.is at c.in_ok-bytes.ensures.file in
    image_fault _ _ _ _ _ (request_of c.args.command.now) _ c.load_file.ensures.calls file
