mod Depths
