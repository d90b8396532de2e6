use Rattle.std.proofs.Common.{ap}
use Rattle.dash_run.specs.Inputs.{topology_file, of_topology}
use Rattle.dash_run.specs.Output.{machine_of, request_of}
use Rattle.dash_run.proofs.Printing.{on_err}
use Rattle.dash_run.proofs.Loading.{topology_begun, topology_fault}
use Rattle.dash_run.proofs.files.load_source.Goals as goal

pub load_file-requires : goal.load_file-requires
load_file-requires g c = c.requires.names (topology_file c.in-File.name.now) (of_topology c.in-File.name.now (ap machine_of c.in-File.is))

pub returns-in_err-bytes-in-File-clause-begun : goal.returns-in_err-bytes-in-File-clause-begun
returns-in_err-bytes-in-File-clause-begun g c = λ first made.
    on_err _ (topology_begun first _ _ (request_of c.args.command.now) c.in-File.name.now (ap machine_of c.in-File.is) made c.load_file.ensures.calls)

pub returns-in-NoBytes-clause-loaded : goal.returns-in-NoBytes-clause-loaded
returns-in-NoBytes-clause-loaded g c = λ first made.
    let file = rw c.in-NoBytes.is at c.in_ok-bytes-in-File.ensures.file in
    topology_fault _ _ _ first _ _ (request_of c.args.command.now) c.args.image.items c.in-File.name.now _ (ap machine_of c.in-File.is) c.requires.image made c.load_file.ensures.calls file
