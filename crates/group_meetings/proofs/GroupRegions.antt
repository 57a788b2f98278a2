-- The laws of groups and of the squares at which parts meet, of any cell.
use Rattle.group_meetings.proofs.Common.{inl, inr, subst, Chain-append, RawTech, Place, named_tree, IsMemberOfPart}
use Rattle.meeting_laws.specs.PartLayouts.{Passes}
use Rattle.tree_names.proofs.GroupNodes.{group_back}
use Rattle.group_meetings.specs.Laws.{DifferentMembersMeetInRegions, MembersAreJoinedByRegions, RegionsAreInGroups, MembersOfLargerGroupsAreWithin}
use Rattle.group_meetings.proofs.PartMembers.{part_of_member}
use Rattle.group_meetings.proofs.RegionLaws.{region_in_group}
use Rattle.group_meetings.proofs.MeetingMembers.{meets_on_the_way, sharing_meet, linked_meet, joined_by_regions}

-- two different members that share a place or are linked meet in a region
pub different_meet : (raw : RawTech) → DifferentMembersMeetInRegions raw
different_meet raw formed rules within (named_tree own elements) others is a b first second here there differ near =
    let tree = named_tree own elements in
    let one = part_of_member raw tree a first here in
    let other = part_of_member raw tree b second there in
    elim near [
      | inl same ↦
          sharing_meet (Passes within) raw formed rules own elements is.typed is.clean is.holds others is.restricted b one.0 other.0 first second
          (subst (λ (p : Place). IsMemberOfPart raw tree one.0 p first) same one.1) other.1 differ
      | inr link ↦
          linked_meet (Passes within) raw formed rules own elements is.typed is.clean is.holds others is.restricted a b one.0 other.0 first second
          one.1 other.1 differ link
    ]

-- the members of a group meet one after another in regions
pub members_joined : (raw : RawTech) → MembersAreJoinedByRegions raw
members_joined raw formed rules within (named_tree own elements) others is have a b first second here there together =
    let one = part_of_member raw (named_tree own elements) a first here in
    let other = part_of_member raw (named_tree own elements) b second there in
    joined_by_regions (Passes within) raw formed rules own elements is.typed is.clean is.holds others is.restricted have a b together one.0 other.0
    first second one.1 other.1

-- a region is in a group
pub regions_in_groups : (raw : RawTech) → RegionsAreInGroups raw
regions_in_groups raw within tree others restricted a b chain = region_in_group (Passes within) raw tree others restricted a b chain

-- each member of a group of two or more has a place at which parts meet
pub larger_groups_within : (raw : RawTech) → MembersOfLargerGroupsAreWithin raw
larger_groups_within raw formed rules within (named_tree own elements) others is place first second one other differ =
    let tree = named_tree own elements in
    let here = part_of_member raw tree one.0 first one.2 in
    let there = part_of_member raw tree other.0 second other.2 in
    let way = Chain-append (group_back raw tree place one.0 one.1) other.1 in
    let found =
    meets_on_the_way (Passes within) raw formed rules own elements is.typed is.clean is.holds one.0 other.0 way here.0 there.0 first second
    here.1 there.1 differ in
    record { other = found.0; together = Chain-append one.1 found.1.0; has = found.1.1; inside = found.1.2 }
