-- The refusals of the centre by number and layer, and the vault that one is about; those of a work list by record.
use Rattle.std.specs.Prelude.{ℕ, Some, None, Option}
use Rattle.refusals.specs.declared.layer.Layer.{Layer}
use Rattle.refusals.specs.declared.layer.Layer.TheVariants as layer
use Rattle.refusals.specs.declared.place.Place.{Place}
use Rattle.refusals.specs.declared.place.Place.TheVariants.{Vault}
use Rattle.refusals.specs.Numbers.{link_number, store_number}
use Rattle.privileges.specs.declared.fault.DeclareFault.{DeclareFault}
use Rattle.privileges.specs.declared.fault.DeclareFault.TheVariants as declare
use Rattle.rules.specs.declared.fault.CentreFault.{CentreFault}
use Rattle.rules.specs.declared.fault.CentreFault.TheVariants.{NoUser, NoEdge, Unauthorised, PolicyFull, StoreRoom, LinkRoom, TooDeep, NamesFull, NoVault, NoPrivilege, NothingWaiting, WrongStage, Link, Store}
use Rattle.rules.specs.declared.fault.WorkFault.{WorkFault}
use Rattle.rules.specs.declared.fault.WorkFault.TheVariants as work

-- what declaring refuses, the centre refuses
abbrev pub of_declare : DeclareFault → CentreFault
of_declare declare.NoEdge = NoEdge
of_declare declare.TooDeep = TooDeep
of_declare declare.NamesFull = NamesFull

abbrev pub centre_number : CentreFault → ℕ
centre_number NoUser = 1
centre_number NoEdge = 2
centre_number Unauthorised = 3
centre_number PolicyFull = 4
centre_number (StoreRoom v) = 5
centre_number (LinkRoom v) = 6
centre_number TooDeep = 7
centre_number NamesFull = 8
centre_number (NoVault v) = 9
centre_number NoPrivilege = 10
centre_number (NothingWaiting v) = 11
centre_number WrongStage = 20
centre_number (Link v f) = link_number f
centre_number (Store v f) = store_number f

abbrev pub centre_layer : CentreFault → Layer
centre_layer NoUser = layer.Centre
centre_layer NoEdge = layer.Centre
centre_layer Unauthorised = layer.Centre
centre_layer PolicyFull = layer.Centre
centre_layer (StoreRoom v) = layer.Centre
centre_layer (LinkRoom v) = layer.Centre
centre_layer TooDeep = layer.Centre
centre_layer NamesFull = layer.Centre
centre_layer (NoVault v) = layer.Centre
centre_layer NoPrivilege = layer.Centre
centre_layer (NothingWaiting v) = layer.Centre
centre_layer WrongStage = layer.Centre
centre_layer (Link v f) = layer.Link
centre_layer (Store v f) = layer.Store

abbrev pub centre_place : CentreFault → Option Place
centre_place NoUser = None
centre_place NoEdge = None
centre_place Unauthorised = None
centre_place PolicyFull = None
centre_place (StoreRoom v) = Some (Vault v)
centre_place (LinkRoom v) = Some (Vault v)
centre_place TooDeep = None
centre_place NamesFull = None
centre_place (NoVault v) = Some (Vault v)
centre_place NoPrivilege = None
centre_place (NothingWaiting v) = Some (Vault v)
centre_place WrongStage = None
centre_place (Link v f) = Some (Vault v)
centre_place (Store v f) = Some (Vault v)

abbrev pub work_number : WorkFault → ℕ
work_number (work.Command r f) = centre_number f

abbrev pub work_layer : WorkFault → Layer
work_layer (work.Command r f) = centre_layer f

-- the record that is refused
abbrev pub work_record : WorkFault → ℕ
work_record (work.Command r f) = r
