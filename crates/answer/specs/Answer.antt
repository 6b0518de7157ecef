-- Document 01, "Refused orders", and document 02 from 17 on: the number that each answer gives back.
-- Assumes nothing.
use Rattle.std.specs.Prelude.{ℕ, Result, Ok, Err}
use Rattle.answer.specs.declared.Refusal.{Refusal}
use Rattle.answer.specs.declared.Refusal.TheVariants.{
  JobLength,
  JobVersion,
  HeaderRange,
  SectionBytes,
  SectionRules,
  ChildlessKind,
  Residents,
  DemandOverTable,
  DemandOverFixtures,
  CatalogueShape,
  CatalogueRules,
  SizeList,
  SizeTooSmall,
  ResultShort,
  WorkShort,
  NoSuitableList,
  MeterList,
  NoMeter,
  LossList,
  NotHot,
  HeatRange,
}

-- the number of a refusal
abbrev pub refusal_number : Refusal → ℕ
-- job under 40 bytes, or its length isn't the bytes lent
refusal_number JobLength = 1
-- version neither 1 nor 2
refusal_number JobVersion = 2
-- service, k, S, T, meter loss, G, H or limit out of range
refusal_number HeaderRange = 3
-- length isn't 40 + 10 × S, or 41 + 10 × S in version 2
refusal_number SectionBytes = 4
-- a section breaks its own fields' rules
refusal_number SectionRules = 5
-- a childless section has kind 0
refusal_number ChildlessKind = 6
-- residents without fixtures, or the reverse
refusal_number Residents = 7
-- house m or house hour sum over 400,000,000
refusal_number DemandOverTable = 8
-- m over 100,000 × fixtures with at most 200 fixtures: house, any section, or house hour
refusal_number DemandOverFixtures = 9
-- catalogue under 7 bytes, wrong length, version or counts
refusal_number CatalogueShape = 10
-- a size or row breaks its rules
refusal_number CatalogueRules = 11
-- size list isn't S long or names no size
refusal_number SizeList = 12
-- a section over its last row or the limit
refusal_number SizeTooSmall = 13
-- result buffer too short
refusal_number ResultShort = 14
-- workspace too short
refusal_number WorkShort = 15
-- no suitable list
refusal_number NoSuitableList = 16
-- the list of meters breaks its rules
refusal_number MeterList = 17
-- no meter qualifies
refusal_number NoMeter = 18
-- the losses aren't S long, or one is over 4,259,775 cm
refusal_number LossList = 19
-- heat asked for a job that isn't hot
refusal_number NotHot = 20
-- temperature or loss out of range
refusal_number HeatRange = 21

-- the number of what a call gives back: 0 for a result, whatever it is
module _ {A : Type 0} where
  abbrev pub number_of : Result A Refusal → ℕ
  number_of (Ok value) = 0
  number_of (Err refusal) = refusal_number refusal
